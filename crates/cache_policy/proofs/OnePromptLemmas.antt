-- One prompt: a ticket that is out stays so up to its Close, over turn-overs too, and meanwhile the policy opens no other.
use Rattle.std.specs.{Prelude.{◌≡◌, ℕ, ◌+◌, List, [], ◌∷◌, ◌++◌, length, Bool, true, false, not, cond, Option, Some, None, IfSome, refl, if◌then◌else◌}, List.AllByRecursion, Option.{option_map, option_and_then}}
use Rattle.std.proofs.{Common.{ap, sym, ◌∙◌, subst, arith, append_assoc}, lemmas.List.{append-nil, length-append, Sums.take_while-cons}}
use Rattle.cache_policy.specs.declared.{life.Limits.Limits, mark.{Way.{Way, TheVariants.{Quiet, Prompt}}, Mark.Mark, MarkStep.{MarkStep, TheVariants.{Ask, Seat, Close, Put, Clear, Flush, Peek, Stop}}, MarkReply.MarkReply}}
use Rattle.cache_policy.specs.{declared.{mark.MarkReply.TheVariants.{Given, Empty, Open, Done, Held as WhetherHeld, Stopping, Late}, entry.Entry.Entry, history.Held.Held}, Histories.{History, next_number, start_of, with_marks, with_mark}}
use Rattle.cache_policy.specs.{Seat.{under_of, is_open, gives_back, unless_back, unless_given_back, seat, stopped}, Live.live, Policy.{Reply, policy, prompt_ruling, ask_ruling}, Waits.is_late}
use Rattle.cache_policy.{specs.{Runs.{IsFollowedBy, IsRun, joined, start_of_run}, Legal.{FollowsPolicy, IsLegal, IsLegalRun}, OnePrompt.{before_close, NoneOpens, HasOnePrompt}}, proofs.OneMore.{next_number_with_mark, seat_with_mark}}
use Rattle.cache_policy.proofs.Growing.{seat_turn_over}

prompt_waits : (stops : Bool) (held : Held) (late : Bool) → prompt_ruling stops (Some held) late ≡ Reply Open → ⊥
prompt_waits true held late rules = cc
prompt_waits false held true rules = cc
prompt_waits false held false rules = cc

ask_waits : (found : Option Entry) (way : Way) (stops : Bool) (held : Held) (late : Bool) → ask_ruling found way stops (Some held) late ≡ Reply Open → ⊥
ask_waits (Some entry) way stops held late rules = cc
ask_waits None Quiet stops held late rules = cc
ask_waits None Prompt stops held late rules = prompt_waits stops held late rules

-- while a ticket is out no step is answered Open
policy_waits : (limits : Limits) (before : History) (asked : MarkStep) (moment : ℕ) (held : Held) → seat before ≡ Some held
    → policy limits before asked moment ≡ Reply Open → ⊥
policy_waits limits before (Ask id mode way since) moment held out rules =
    ask_waits (live limits before id mode moment) way (stopped before) held (is_late since moment)
    (subst (λ (o : Option Held). ask_ruling (live limits before id mode moment) way (stopped before) o (is_late since moment) ≡ Reply Open) out rules)
policy_waits limits before (Seat under since) moment held out rules =
    prompt_waits (stopped before) held (is_late since moment)
    (subst (λ (o : Option Held). prompt_ruling (stopped before) o (is_late since moment) ≡ Reply Open) out rules)
policy_waits limits before (Close ticket keep) moment held out rules = cc
policy_waits limits before (Put id mode life secret) moment held out rules = cc
policy_waits limits before (Clear id mode) moment held out rules = cc
policy_waits limits before Flush moment held out rules = cc
policy_waits limits before (Peek id mode) moment held out rules = cc
policy_waits limits before Stop moment held out rules = cc

not_open : (reply : MarkReply) → (reply ≡ Open → ⊥) → is_open reply ≡ false
not_open Open never = absurd (never refl)
not_open (Given number) never = refl
not_open Empty never = refl
not_open Done never = refl
not_open (WhetherHeld held) never = refl
not_open Stopping never = refl
not_open Late never = refl

-- the law, for the marks after a history: of the ticket that is out by then, and of each mark that opens one
record StaysOne (before : History) (marks : List Mark) : Type 0 where
  pub out : (held : Held) → seat before ≡ Some held → NoneOpens (before_close held.ticket marks)
  pub opened : (front back : List Mark) (mark : Mark) → marks ≡ front ++ mark ∷ back → mark.reply ≡ Open
      → NoneOpens (before_close (next_number before + length front) back)

module _ (limits : Limits) where
  -- marks that follow the policy open none while the ticket is out, and where it still is after them, the rest doesn't either
  while_out : (before : History) (marks rest : List Mark) (held : Held) → FollowsPolicy limits before marks → seat before ≡ Some held
      → (seat (with_marks before marks) ≡ Some held → NoneOpens (before_close held.ticket rest))
      → NoneOpens (before_close held.ticket (marks ++ rest))
  while_out before [] rest held follows out beyond =
      beyond (ap (λ (marks : List Mark). seat (record before { marks = marks })) (append-nil before.marks) ∙ out)
  while_out before (mark ∷ later) rest held follows out beyond =
      subst NoneOpens (sym (take_while-cons (λ (m : Mark). not (gives_back held.ticket m.step)) mark (later ++ rest)))
      (elim (gives_back held.ticket mark.step) as (λ b. gives_back held.ticket mark.step ≡ b
      → NoneOpens (cond (not b) (mark ∷ before_close held.ticket (later ++ rest)) [])) [
        | true ↦ λ e. tt
        | false ↦ λ e. (
          shut,
          while_out (with_mark before mark) later rest held follows.1 (still e)
              (λ o. beyond (ap (λ (marks : List Mark). seat (record before { marks = marks })) (sym (append_assoc before.marks (mark ∷ []) later)) ∙ o)),
        )
      ] refl)
    where
      shut : is_open mark.reply ≡ false
      shut = not_open mark.reply (λ opens. policy_waits limits before mark.step mark.moment held out (follows.0 ∙ ap Reply opens))

      still : gives_back held.ticket mark.step ≡ false → seat (with_mark before mark) ≡ Some held
      still e =
          seat_with_mark before mark
          ∙ ap (λ (b : Bool). if b then Some (record { ticket = next_number before; under = under_of mark.step }) else option_and_then (unless_given_back mark.step) (seat before)) shut
          ∙ ap (option_and_then (unless_given_back mark.step)) out
          ∙ ap (λ (b : Bool). cond b None (Some held)) e

  opened_among : (before : History) (marks rest front back : List Mark) (mark : Mark) → FollowsPolicy limits before marks
      → StaysOne (with_marks before marks) rest → marks ++ rest ≡ front ++ mark ∷ back → mark.reply ≡ Open
      → NoneOpens (before_close (next_number before + length front) back)
  opened_among before [] rest front back mark follows stays place opens =
      subst (λ (marks : List Mark). NoneOpens (before_close (next_number (record before { marks = marks }) + length front) back))
      (append-nil before.marks) (stays.opened front back mark place opens)
  opened_among before (first ∷ later) rest [] back mark follows stays place opens =
      let same : first ≡ mark = cc in
      let behind : later ++ rest ≡ back = cc in
      let ticket : Held = record { ticket = next_number before + 0; under = under_of first.step } in
      let out : seat (with_mark before first) ≡ Some ticket = seat_with_mark before first
      ∙ ap (λ (b : Bool). if b then Some (record { ticket = next_number before; under = under_of first.step }) else option_and_then (unless_given_back first.step) (seat before))
      (ap (λ (m : Mark). is_open m.reply) same ∙ ap is_open opens)
      ∙ ap (λ (n : ℕ). Some (record { ticket = n; under = under_of first.step })) (omega arith) in
      subst (λ (marks : List Mark). NoneOpens (before_close ticket.ticket marks)) behind
      (while_out (with_mark before first) later rest ticket follows.1 out
      (λ o. stays.out ticket (ap (λ (marks : List Mark). seat (record before { marks = marks })) (sym (append_assoc before.marks (first ∷ []) later)) ∙ o)))
  opened_among before (first ∷ later) rest (other ∷ front) back mark follows stays place opens =
      let behind : later ++ rest ≡ front ++ mark ∷ back = cc in
      subst (λ (n : ℕ). NoneOpens (before_close n back)) (omega (arith, next_number_with_mark before first))
      (opened_among (with_mark before first) later rest front back mark follows.1
      (subst (λ (marks : List Mark). StaysOne (record before { marks = marks }) rest) (sym (append_assoc before.marks (first ∷ []) later)) stays) behind opens)

  through : (before : History) (marks rest : List Mark) → FollowsPolicy limits before marks → StaysOne (with_marks before marks) rest
      → StaysOne before (marks ++ rest)
  through before marks rest follows stays = record {
    out = λ held out. while_out before marks rest held follows out (stays.out held);
    opened = λ front back mark place opens. opened_among before marks rest front back mark follows stays place opens;
  }

-- a turn-over leaves the ticket out, and the numbers go on
turned_over : (history next : History) (marks : List Mark) → IsFollowedBy history next → StaysOne (start_of next) marks → StaysOne history marks
turned_over history next marks followed stays = record {
  out = λ held out. stays.out held (ap seat followed.start ∙ seat_turn_over history ∙ out);
  opened = λ front back mark place opens. subst (λ (n : ℕ). NoneOpens (before_close n back))
      (omega (arith, followed.full, ap (λ (h : History). h.base) followed.start)) (stays.opened front back mark place opens);
}

no_mark : (front back : List Mark) (mark : Mark) → [] ≡ front ++ mark ∷ back → ⊥
no_mark [] back mark place = cc
no_mark (first ∷ front) back mark place = cc

later_histories : (limits : Limits) (history : History) (later : List History) → IsRun (history ∷ later) → AllByRecursion (IsLegal limits) later
    → StaysOne history (joined later)
later_histories limits history [] is each = record { out = λ held out. tt; opened = λ front back mark place opens. absurd (no_mark front back mark place) }
later_histories limits history (next ∷ later) is each =
    turned_over history next (joined (next ∷ later)) is.0
    (through limits (start_of next) next.marks (joined later) each.0.replies (later_histories limits next later is.1 each.1))

at_start : (first : History) (marks : List Mark) → StaysOne (start_of first) marks → HasOnePrompt (start_of first) marks
at_start first marks stays = record {
  opened = λ before later mark place opens. subst (λ (n : ℕ). NoneOpens (before_close n later)) (omega arith) (stays.opened before later mark place opens);
  held = elim first.held as (λ h. first.held ≡ h → IfSome h (λ held. NoneOpens (before_close held.ticket marks))) [
    | Some held ↦ λ e. stays.out held (ap (λ (h : Option Held). option_and_then unless_back (option_map (λ (one : Held). (one, [])) h)) e)
    | None ↦ λ e. tt
  ] refl;
}

-- in a legal run there is one prompt at a time
pub one_prompt : (limits : Limits) (run : List History) (start : History) → IsLegalRun limits run → start_of_run run ≡ Some start
    → HasOnePrompt start (joined run)
one_prompt limits [] start legal is = absurd legal.turns_over
one_prompt limits (first ∷ later) start legal is =
    let same : start_of first ≡ start = cc in
    subst (λ (s : History). HasOnePrompt s (joined (first ∷ later))) same
    (at_start first (joined (first ∷ later)) (through limits (start_of first) first.marks (joined later) legal.each.0.replies
    (later_histories limits first later legal.turns_over legal.each.1)))

no_history : (front back : List History) (history : History) → [] ≡ front ++ history ∷ back → ⊥
no_history [] back history place = cc
no_history (first ∷ front) back history place = cc

numbers_from : (first : History) (later front back : List History) (history : History) → IsRun (first ∷ later)
    → first ∷ later ≡ front ++ history ∷ back → history.base ≡ first.base + length (joined front)
numbers_from first later [] back history is place =
    let same : first ≡ history = cc in
    omega (arith, ap (λ (h : History). h.base) same)
numbers_from first [] (other ∷ front) back history is place =
    let behind : [] ≡ front ++ history ∷ back = cc in
    absurd (no_history front back history behind)
numbers_from first (next ∷ later) (other ∷ front) back history is place =
    let same : first ≡ other = cc in
    let behind : next ∷ later ≡ front ++ history ∷ back = cc in
    omega (
      arith,
      numbers_from next later front back history is.1 behind,
      is.0.full,
      ap (λ (h : History). h.base) is.0.start,
      ap (λ (h : History). length h.marks) same,
      length-append other.marks (joined front),
    )

-- each base counts the marks of the histories before it
pub numbers_go_on : (run front back : List History) (start history : History) → IsRun run → start_of_run run ≡ Some start
    → run ≡ front ++ history ∷ back → history.base ≡ start.base + length (joined front)
numbers_go_on [] front back start history is begins place = absurd is
numbers_go_on (first ∷ later) front back start history is begins place =
    let same : start_of first ≡ start = cc in
    subst (λ (s : History). history.base ≡ s.base + length (joined front)) same (numbers_from first later front back history is place)
