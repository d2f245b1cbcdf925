-- What is told, one after another.
use Rattle.std.proofs.{Common.{◌≡◌, ◌∷◌, ◌++◌, ◌<◌, ◌+◌, ◌∙◌, [], ℕ, zero, suc, refl, List, take, drop, length, map, sym, ap, subst, true, arith, Global, Vec}, lemmas.List.{map-append, take_more}}
use Rattle.std.specs.Prelude.{get_or}
use Rattle.agent_ports.specs.Sides.{Side}
use Rattle.agent_conf.specs.{Told.told_by, Settled.Texts, Starts.{IsRefused, told_of}, Verdicts.{Told, has_refusal}, declared.{told.Told.Told as Held, start.StartFault.{StartFault, TheVariants.Refused}}}
use Rattle.agent_top.specs.{GpgAgent.{Puts, Tells, TellsFirst, one_more, told_line}, declared.gpg_agent.reading.StartPlace.StartPlace}

-- bytes that are these were put
pub puts_as : {line bytes : List ℕ} {before after : Side} → line ≡ bytes → Puts line before after → Puts bytes before after
puts_as {line} {bytes} {before} {after} same puts = subst (λ (b : List ℕ). Puts b before after) same puts

-- settings that are these were told
pub tells_as : {place : StartPlace} {told other : List Told} {before after : Side} → told ≡ other → Tells place before told after → Tells place before other after
tells_as {place} {told} {other} {before} {after} same tells = subst (λ (t : List Told). Tells place before t after) same tells

pub tells_first_as : {place : StartPlace} {told other : List Told} {before after : Side} → told ≡ other → TellsFirst place before told after → TellsFirst place before other after
tells_first_as {place} {told} {other} {before} {after} same tells = subst (λ (t : List Told). TellsFirst place before t after) same tells

-- those in front of a place were told, and that at the place
pub tells_one_more : {place : StartPlace} {before between after : Side} (held : List Held) (index : ℕ) (d : Held) → index < length held
    → Tells place before (map told_by (take index held)) between → Puts (told_line place (told_by (get_or held index d))) between after
    → Tells place before (map told_by (take (index + 1) held)) after
tells_one_more {place} {before} {between} {after} held index d within tells puts =
    tells_as (sym (ap (map told_by) (take_more held index d within) ∙ map-append told_by (take index held) (get_or held index d ∷ [])))
    (one_more (map told_by (take index held)) (told_by (get_or held index d)) tells puts)

-- what stands at a place, and what stands in front of it and behind it
at_place : {X : Type 0} (xs : List X) (index : ℕ) → index < length xs → (x : X) × (xs ≡ take index xs ++ x ∷ drop (suc index) xs)
at_place [] index within = absurd (omega (arith, within))
at_place (x ∷ xs) zero within = (x, refl)
at_place (x ∷ xs) (suc index) within = let rest = at_place xs index (omega (arith, within)) in (rest.0, ap (λ l. x ∷ l) rest.1)

-- those in front of a place were told, and then there was no memory
pub tells_first : {place : StartPlace} {before after : Side} (held : List Held) (index : ℕ) → index < length held
    → Tells place before (map told_by (take index held)) after → TellsFirst place before (map told_by held) after
tells_first held index within tells =
    let cut = at_place held index within in
    record {
      first = map told_by (take index held);
      next = told_by cut.0;
      others = map told_by (drop (suc index) held);
      are = ap (map told_by) cut.1 ∙ map-append told_by (take index held) (cut.0 ∷ drop (suc index) held);
      tells = tells;
    }

-- what is refused, and what is told of it
pub refused_by : (home user : List ℕ) (texts : Texts) {fault : StartFault} {held : Vec Held Global} → fault ≡ Refused held → IsRefused home user texts fault
    → (has_refusal (told_of home user texts) ≡ true) × (map told_by held.items ≡ told_of home user texts)
refused_by home user texts is refused = subst (λ (f : StartFault). IsRefused home user texts f) is refused
