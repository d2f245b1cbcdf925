-- Answers that are none to an inquiry, and texts of no bytes.
use Rattle.std.proofs.{Common.{◌≡◌, ◌<◌, ◌≤◌, ◌+◌, ℕ, suc, Bool, cond, true, false, List, [], ◌∷◌, length, drop, get_or, refl, ap, ◌∙◌, subst, arith, drop-cons}, Math.ListN.drop_of_length-le}
use Rattle.assuan_client.specs.{Connections.Connection, declared.answer.Answer.{Answer, TheVariants.{Ok, Got, Err, Asked, Broken, ReadFault, WriteFault}}}
use Rattle.pinentry_client.specs.{Settings.all_settings, Talking.{Commands, is_asked}, declared.settings.Setting.TheVariants.TtyName}

pub not_asked : (said : Answer) → ((word text : List ℕ) → said ≡ Asked word text → ⊥) → is_asked said ≡ false
not_asked Ok not = refl
not_asked (Got bytes) not = refl
not_asked (Err number) not = refl
not_asked (Asked word text) not = absurd (not word text refl)
not_asked (Broken why) not = refl
not_asked ReadFault not = refl
not_asked WriteFault not = refl

pub no_bytes : (bytes : List ℕ) → length bytes ≡ 0 → bytes ≡ []
no_bytes [] none = refl
no_bytes (byte ∷ bytes) none = absurd (omega arith)

-- an inquiry uses up a line, and there is none behind another answer
pub fewer_left : (asked : Bool) (after before : ℕ) → (asked ≡ true → after < before) → cond asked (after + 1) 0 < before + 1
fewer_left true after before fewer = let less = fewer refl in omega (arith, less)
fewer_left false after before fewer = omega arith

-- the settings from one on
pub settings_from : (index : ℕ) → index < 13 → drop index all_settings ≡ get_or all_settings index TtyName ∷ drop (index + 1) all_settings
settings_from index within =
    let more : suc index ≡ index + 1 = omega arith in
    drop-cons all_settings index TtyName within ∙ ap (λ (n : ℕ). get_or all_settings index TtyName ∷ drop n all_settings) more

pub none_behind : (index : ℕ) → 13 ≤ index → drop index all_settings ≡ []
none_behind index past = drop_of_length-le all_settings past

-- a line is the same as another
pub said_as : {line other : List ℕ} {said : Answer} {before after : Connection} → line ≡ other → Commands line said before after → Commands other said before after
said_as {said} {before} {after} same does = subst (λ (l : List ℕ). Commands l said before after) same does
