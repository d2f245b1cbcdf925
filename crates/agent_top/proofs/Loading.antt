-- What sessions leave of a desk's run, and marks that are those of words.
use Rattle.std.proofs.{Common.{◌≡◌, ◌∙◌, ◌≤◌, ◌<◌, ◌+◌, ◌*◌, ℕ, zero, suc, List, [], ◌∷◌, length, map, Option, None, Some, refl, ap, ap₂, sym, subst, arith, ◌-◌, ◌%◌, ◌/◌, mod-lt, lit<, true, eqb-true, append-nil}, lemmas.List.length-map}
use Rattle.std.specs.{Prelude.{nat_lt, ◌==◌, if◌then◌else◌, IfSome, IfOk, Result}, Int.{w32, to_be_bytes}, List.{AllByRecursion, cons_option, filter_map}, Option.ok_or}
use Rattle.cache_policy.specs.declared.{life.{Life.TheVariants.Seconds, Limits.Limits}, mark.{MarkStep.{MarkStep, TheVariants.{Ask, Put, Clear}}, Way.TheVariants.Quiet, Mark.Mark}, mode.Mode.TheVariants.{Any, User}, tally.Tally.Tally}
use Rattle.{cache_policy.specs.{Histories.{History, moments}, Legal.IsLegalRun, Replay.{Replays, NoneEmpty, first_history, moments_at}, Runs.{joined, moment_of, start_of_run}}, agent_ask.specs.{Events.Call, Session.PortCalls.PortCall}}
use Rattle.{agent_ask.specs.Session.Worlds.{Outside, Does, received, sent, cut, asked, not_asked, turned, ported}, agent_commands.specs.Events.EventWith, agent_origin.specs.PortStates.PortWorld, agent_core.specs.Solos.{SoloState, SoloTurn}}
use Rattle.{agent_core.specs.Tallies.tally_of, agent_ports.specs.{Leads.{Leads, none, one}, Readings.Readings}, assuan_server.specs.Clients.session_lines, rand_pcg.specs.{Lcg.Lcg, Pcg.pcg32}, session_options.specs.Defaults.default_rules}
use Rattle.agent_top.{proofs.Replays.first_legal, specs.Cache.{limits_of, session}}
use Rattle.agent_top.specs.Load.{IsLoadTally, IsMadeByLoad, load_steps, load_words, load_readings, generator_of, key, KeepsRun, AreOfWords, IsOfWord, step_of, words_from, readings_from}

pub keeps_itself : {C : Type 0} (desk : SoloState C) → KeepsRun desk desk
keeps_itself desk = record { limits = refl; start = refl; legal = λ legal. legal; lent = refl }

pub keeps_on : {C : Type 0} (first mid last : SoloState C) → KeepsRun first mid → KeepsRun mid last → KeepsRun first last
keeps_on first mid last a b = record {
  limits = b.limits ∙ a.limits;
  start = b.start ∙ a.start;
  legal = λ legal. subst (λ limits. IsLegalRun limits last.run) a.limits (b.legal (subst (λ limits. IsLegalRun limits mid.run) (sym a.limits) (a.legal legal)));
  lent = b.lent ∙ a.lent;
}

module _ {C P : Type 0} (readings : C → Readings) (prompted : P → Call → P → Type 0) (supply : session_lines.Supply) where
  keeps_turn : {before after : SoloState C} {step : MarkStep} {turn : _} → SoloTurn readings before step turn after → KeepsRun before after
  keeps_turn does = record {
    limits = does.turns.is.limits;
    start = does.turns.is.run.start;
    legal = does.turns.is.run.legal;
    lent = does.lent;
  }

  -- a session keeps the run of its desk
  pub session_keeps : {before after : Outside (PortWorld (SoloTurn readings) prompted)} {events : List (EventWith PortCall)}
      → Leads (Does (PortWorld (SoloTurn readings) prompted) supply) before events after → KeepsRun before.desk after.desk
  session_keeps {before} none = keeps_itself before.desk
  session_keeps (one (received reads needed) more) = session_keeps more
  session_keeps (one sent more) = session_keeps more
  session_keeps (one cut more) = session_keeps more
  session_keeps (one (asked known needed) more) = session_keeps more
  session_keeps (one (not_asked unsent split) more) = session_keeps more
  session_keeps (one (turned does) more) = keeps_on _ _ _ (keeps_turn does) (session_keeps more)
  session_keeps (one (ported does) more) = session_keeps more

-- ---- marks of words

pub none_left : (moment : ℕ) (generator : Lcg) → AreOfWords moment (words_from 0 generator) []
unfolding words_from readings_from
none_left moment generator = record { by = tt; steps_are = refl; moments_are = refl }

one_more : (word : ℕ) (words : List ℕ) (made : MarkStep) → step_of word ≡ Some made → filter_map step_of (word ∷ words) ≡ made ∷ filter_map step_of words
one_more word words made is = ap (λ o. cons_option o (filter_map step_of words)) is

no_more : (word : ℕ) (words : List ℕ) → step_of word ≡ None → filter_map step_of (word ∷ words) ≡ filter_map step_of words
no_more word words is = ap (λ o. cons_option o (filter_map step_of words)) is

pub mark_first : (moment word : ℕ) (words : List ℕ) (mark : Mark) (marks : List Mark) → IsOfWord moment word mark → AreOfWords (moment + 7) words marks → AreOfWords moment (word ∷ words) (mark ∷ marks)
unfolding readings_from
mark_first moment word words mark marks first rest = record {
  by = (first.by, rest.by);
  steps_are = ap (λ steps. mark.step ∷ steps) rest.steps_are ∙ sym (one_more word words mark.step first.step_is);
  moments_are = ap₂ (λ (m : ℕ) (ms : List ℕ). m ∷ ms) first.moment_is rest.moments_are;
}

no_step : (word : ℕ) → 7 ≤ word % 8 → step_of word ≡ None
no_step word seven =
    let below : word % 8 < 8 = mod-lt word (lit< tt) in
    let is : word % 8 ≡ 7 = omega arith in
    ap (λ (kind : ℕ). if nat_lt kind 4 then Some (Ask (key word) User Quiet None)
    else if nat_lt kind 6 then Some (Put (key word) Any (Seconds (word / 256 % 1000 + 1)) (to_be_bytes w32 word))
    else if kind == 6 then Some (Clear (key word) User)
    else None) is

pub mark_none : (moment word : ℕ) (words : List ℕ) (marks : List Mark) → 7 ≤ word % 8 → AreOfWords moment words marks → AreOfWords moment (word ∷ words) marks
mark_none moment word words marks seven rest = record { by = rest.by; steps_are = rest.steps_are ∙ sym (no_more word words (no_step word seven)); moments_are = rest.moments_are }

-- one word is fewer that is left
pub next_left : (count : ℕ) (generator : Lcg) (word : ℕ) (later : Lcg) → count < 12800 → (word, later) ≡ pcg32 generator
    → words_from (12800 - count) generator ≡ word ∷ words_from (12800 - (count + 1)) later
unfolding words_from
next_left count generator word later below is =
    let more : 12800 - count ≡ suc (12800 - (count + 1)) = omega arith in
    ap (λ (n : ℕ). words_from n generator) more ∙ ap (λ (p : ℕ × Lcg). p.0 ∷ words_from (12800 - (count + 1)) p.1) (sym is)

-- a mark, and a word that has none, before those that are left
pub before_mark : (moment now word : ℕ) (all words : List ℕ) (mark : Mark) (rest later marks : List Mark) → all ≡ word ∷ words → rest ≡ mark ∷ later → IsOfWord moment word mark
    → now ≡ moment + 7 → marks ≡ later → AreOfWords now words marks → AreOfWords moment all rest
before_mark moment now word all words mark rest later marks all_is rest_is first now_is marks_is made =
    subst (λ (ws : List ℕ). AreOfWords moment ws rest) (sym all_is)
    (subst (λ (ms : List Mark). AreOfWords moment (word ∷ words) ms) (sym rest_is)
    (mark_first moment word words mark later first (subst (λ (m : ℕ). AreOfWords m words later) now_is (subst (λ (ms : List Mark). AreOfWords now words ms) marks_is made))))

pub before_none : (moment now word : ℕ) (all words : List ℕ) (rest marks : List Mark) → all ≡ word ∷ words → 7 ≤ word % 8 → now ≡ moment → marks ≡ rest
    → AreOfWords now words marks → AreOfWords moment all rest
before_none moment now word all words rest marks all_is seven now_is marks_is made =
    subst (λ (ws : List ℕ). AreOfWords moment ws rest) (sym all_is)
    (mark_none moment word words rest seven (subst (λ (m : ℕ). AreOfWords m words rest) now_is (subst (λ (ms : List Mark). AreOfWords now words ms) marks_is made)))

pub at_end : (count moment : ℕ) (generator : Lcg) (marks : List Mark) → 12800 ≤ count → (length marks == 0) ≡ true → AreOfWords moment (words_from (12800 - count) generator) marks
at_end count moment generator [] done empty =
    let nothing : 12800 - count ≡ 0 = omega arith in
    subst (λ (n : ℕ). AreOfWords moment (words_from n generator) []) (sym nothing) (none_left moment generator)
at_end count moment generator (mark ∷ marks) done empty = absurd (omega (arith, eqb-true _ _ empty))

-- ---- the run of a load

steady : (count first since : ℕ) → since ≤ first → first + 7 * count ≤ 4611686018427387904 → moments_at since (readings_from count first) ≡ readings_from count first
unfolding readings_from
steady zero first since before within = refl
steady (suc count) first since before within =
    let is : moment_of since first ≡ first = omega arith in
    ap₂ (λ (m : ℕ) (ms : List ℕ). m ∷ ms) is
    (ap (λ (m : ℕ). moments_at m (readings_from count (first + 7))) is ∙ steady count (first + 7) first (omega arith) (omega arith))

words_count : (count : ℕ) (generator : Lcg) → length (words_from count generator) ≡ count
unfolding words_from
words_count zero generator = refl
words_count (suc count) generator = ap suc (words_count count (pcg32 generator).1)

fewer : (words : List ℕ) → length (filter_map step_of words) ≤ length words
fewer [] = omega arith
fewer (word ∷ words) = go (step_of word) (fewer words)
  where
    go : (o : Option MarkStep) → length (filter_map step_of words) ≤ length words → length (cons_option o (filter_map step_of words)) ≤ length (word ∷ words)
    go None less = omega arith
    go (Some made) less = omega arith

module _ (number : ℕ) (limits : Limits) (run : List History) (made : IsMadeByLoad number run) where
  joined_is : joined run ≡ made.history.marks
  joined_is = ap joined made.run_is ∙ append-nil made.history.marks

  steps_made : map (λ (mark : Mark). mark.step) made.history.marks ≡ load_steps number
  unfolding load_steps
  steps_made = made.made.steps_are

  count_is : length made.history.marks ≡ length (load_steps number)
  count_is = sym (length-map made.history.marks (λ (mark : Mark). mark.step)) ∙ ap length steps_made

  few : length (load_steps number) ≤ 12800
  unfolding load_steps
  few = let less = fewer (load_words number) in let count = words_count 12800 (generator_of number) in omega (arith, less, count)

  pub load_replays : start_of_run run ≡ Some first_history → IsLegalRun limits run → Replays limits session (load_steps number) (load_readings number) run
  load_replays start legal = record {
    start = start;
    legal = legal;
    by = subst (λ (ms : List Mark). AllByRecursion (λ mark. mark.session ≡ session) ms) (sym joined_is) made.made.by;
    steps_are = ap (map (λ (mark : Mark). mark.step)) joined_is ∙ steps_made;
    moments_are = ap moments joined_is ∙ made.made.moments_are ∙ ap (λ (n : ℕ). readings_from n 0) count_is ∙ sym (steady (length (load_steps number)) 0 0 (omega arith) (let f = few in omega (arith, f)));
    none_empty = subst NoneEmpty (sym made.run_is) tt;
  }

-- a desk that began empty, and whose marks then are those of a load
pub load_tally_is : {C : Type 0} (number : ℕ) (limits : Limits) (before after : SoloState C) (tally : Tally) → limits ≡ limits_of default_rules → before.limits ≡ limits → before.run ≡ first_history ∷ []
    → KeepsRun before after → tally ≡ tally_of after.limits after.run → IsMadeByLoad number after.run → IsLoadTally number tally
load_tally_is number limits before after tally limits_is before_limits before_run keeps tally_is made =
    let limits_now : after.limits ≡ limits_of default_rules = keeps.limits ∙ before_limits ∙ limits_is in
    let was_legal : IsLegalRun before.limits before.run = subst (λ (r : List History). IsLegalRun before.limits r) (sym before_run) (first_legal before.limits) in
    let legal : IsLegalRun (limits_of default_rules) after.run = subst (λ (l : Limits). IsLegalRun l after.run) (before_limits ∙ limits_is) (keeps.legal was_legal) in
    record {
      run = after.run;
      replays = load_replays number (limits_of default_rules) after.run made (keeps.start ∙ ap start_of_run before_run) legal;
      tally_is = tally_is ∙ ap (λ (l : Limits). tally_of l after.run) limits_now;
    }

pub load_or_none : {C E : Type 0} (number : ℕ) (limits : Limits) (before after : SoloState C) (found : Option Tally) (fault : E) (result : Result Tally E) → limits ≡ limits_of default_rules
    → before.limits ≡ limits → before.run ≡ first_history ∷ [] → KeepsRun before after → IfSome found (λ tally. (tally ≡ tally_of after.limits after.run) × IsMadeByLoad number after.run)
    → result ≡ ok_or found fault → IfOk result (λ tally. IsLoadTally number tally)
load_or_none number limits before after None fault result limits_is before_limits before_run keeps found_is is = subst (λ r. IfOk r (λ tally. IsLoadTally number tally)) (sym is) tt
load_or_none number limits before after (Some tally) fault result limits_is before_limits before_run keeps found_is is =
    subst (λ r. IfOk r (λ t. IsLoadTally number t)) (sym is) (load_tally_is number limits before after tally limits_is before_limits before_run keeps found_is.0 found_is.1)
