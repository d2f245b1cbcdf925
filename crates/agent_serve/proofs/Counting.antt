-- How the marks of turns are counted.
use Rattle.std.{proofs.{Common.{◌≡◌, ℕ, ◌+◌, Bool, true, false, List, [], ◌∷◌, ◌++◌, refl, ap, sym, ◌∙◌, subst, arith, append_assoc}, lemmas.List.append-nil}, specs.List.AllByRecursion}
use Rattle.{agent_ports.specs.{Readings.Readings, declared.session.SessionId.SessionId}, cache_policy.specs.declared.{life.Limits.Limits, mark.{Mark.Mark, MarkReply.MarkReply, MarkStep.MarkStep}}}
use Rattle.cache_policy.specs.{Desks.{Shows, MakesMarks, marked, refused, spent}, Extending.Taken, Histories.History, Seat.is_open, Tallies.{is_given, is_empty, how_many}}
use Rattle.{cache_policy.specs.Turns.{Turn, Given, Empty, Open, Stand, Done, Held, Stopping, Late, Refused}, counted_lock.specs.Passes.{AtPass, mine}}
use Rattle.agent_serve.specs.Serves.{PassTurns, none, turned, came_given, came_empty, came_open, how_many_turns, AddsMarks}
use Rattle.cache_policy.specs.declared.mark.MarkReply.TheVariants as answer

abbrev one : Bool → ℕ
one true = 1
one false = 0

-- a mark is replied Given, Empty or Open where its turn came out so
abbrev Alike : MarkReply → Turn → Type 0
Alike reply turn = (is_given reply ≡ came_given turn) × (is_empty reply ≡ came_empty turn) × (is_open reply ≡ came_open turn)

alike : (turn : Turn) (reply shown : MarkReply) → reply ≡ shown → Alike shown turn → Alike reply turn
alike turn reply shown is same = subst (λ (r : MarkReply). Alike r turn) (sym is) same

shows_alike : (limits : Limits) (before : History) (mark : Mark) (turn : Turn) → Shows limits before mark turn → Alike mark.reply turn
shows_alike limits before mark (Given grant) shows = alike (Given grant) mark.reply (answer.Given grant.entry.number) shows.0 (refl, refl, refl)
shows_alike limits before mark Empty shows = alike Empty mark.reply answer.Empty shows (refl, refl, refl)
shows_alike limits before mark (Open number) shows = alike (Open number) mark.reply answer.Open shows.0 (refl, refl, refl)
shows_alike limits before mark (Stand wait) shows = absurd shows
shows_alike limits before mark Done shows = alike Done mark.reply answer.Done shows (refl, refl, refl)
shows_alike limits before mark (Held held) shows = alike (Held held) mark.reply (answer.Held held) shows (refl, refl, refl)
shows_alike limits before mark Stopping shows = alike Stopping mark.reply answer.Stopping shows (refl, refl, refl)
shows_alike limits before mark Late shows = alike Late mark.reply answer.Late shows (refl, refl, refl)
shows_alike limits before mark Refused shows = absurd shows

-- what one turn's marks come to
record OneTurn (session : SessionId) (turn : Turn) (own : List Mark) : Type 0 where
  by : AllByRecursion (λ mark. mark.session ≡ session) own
  given : how_many (λ mark. is_given mark.reply) own ≡ one (came_given turn)
  empty : how_many (λ mark. is_empty mark.reply) own ≡ one (came_empty turn)
  opened : how_many (λ mark. is_open mark.reply) own ≡ one (came_open turn)

-- a list of one element
filter_one : (passes : Mark → Bool) (mark : Mark) (test : Bool) → passes mark ≡ test → how_many passes (mark ∷ []) ≡ one test
filter_one passes mark true is = rw is refl
filter_one passes mark false is = rw is refl

one_turn : (limits : Limits) (session : SessionId) (called : ℕ) (asked : MarkStep) (run : List History) (turn : Turn) (own : List Mark)
    → MakesMarks limits session called asked run turn own → OneTurn session turn own
one_turn limits session called asked run turn own (marked mark is) =
    let same = shows_alike limits is.before mark turn is.shows in
    record {
      by = (is.by, tt);
      given = filter_one (λ m. is_given m.reply) mark (came_given turn) same.0;
      empty = filter_one (λ m. is_empty m.reply) mark (came_empty turn) same.1;
      opened = filter_one (λ m. is_open m.reply) mark (came_open turn) same.2;
    }
one_turn limits session called asked run turn own refused = record { by = tt; given = refl; empty = refl; opened = refl }
one_turn limits session called asked run turn own (spent all) = record { by = tt; given = refl; empty = refl; opened = refl }

how_many_both : (passes : Mark → Bool) (xs ys : List Mark) → how_many passes (xs ++ ys) ≡ how_many passes xs + how_many passes ys
how_many_both passes [] ys = omega arith
how_many_both passes (x ∷ xs) ys = grind (arith, how_many_both passes xs ys)

more_by_test : (passes : Turn → Bool) (taken : Taken) (turns : List Taken) (test : Bool) → passes taken.turn ≡ test
    → how_many_turns passes (taken ∷ turns) ≡ one test + how_many_turns passes turns
more_by_test passes taken turns true is = rw is (omega arith)
more_by_test passes taken turns false is = rw is (omega arith)

how_many_more : (passes : Turn → Bool) (taken : Taken) (turns : List Taken) → how_many_turns passes (taken ∷ turns) ≡ one (passes taken.turn) + how_many_turns passes turns
how_many_more passes taken turns = more_by_test passes taken turns (passes taken.turn) refl

all_both : (P : Mark → Type 0) (xs ys : List Mark) → AllByRecursion P xs → AllByRecursion P ys → AllByRecursion P (xs ++ ys)
all_both P [] ys these those = those
all_both P (x ∷ xs) ys these those = (these.0, all_both P xs ys these.1 those)

seen_on : (before mid after : AtPass) (found own others more : List Mark) → found ≡ before.seen ++ others → mid ≡ record before { seen = found ++ own }
    → after ≡ record mid { seen = mid.seen ++ more } → after ≡ record before { seen = before.seen ++ (others ++ (own ++ more)) }
seen_on before mid after found own others more found_is mid_is after_is =
    rw (after_is, mid_is, found_is) (ap (λ (l : List Mark). record before { seen = l })
    (append_assoc (before.seen ++ others) own more ∙ append_assoc before.seen others (own ++ more)))

-- What the turns of a session do to its pass
pub record Added (session : SessionId) (turns : List Taken) (own : List Mark) (before after : AtPass) : Type 0 where
  pub adds : AddsMarks session turns own before after
  pub more : List Mark
  pub now : after ≡ record before { seen = before.seen ++ more }

pub added : (session : SessionId) (before after : AtPass) (first last : Readings) (turns : List Taken) (own : List Mark) → PassTurns session before first turns own after last
    → Added session turns own before after
added session before after first last turns own none = record {
  adds = record { mine_is = sym (append-nil (mine before)); by = tt; given = refl; empty = refl; opened = refl };
  more = [];
  now = ap (λ (l : List Mark). record before { seen = l }) (sym (append-nil before.seen));
}
added session before after first last turns own (turned {mid = mid} {taken = taken} {turns = more_turns} {marks = marks} does later) =
    let rest = added session mid after _ last more_turns marks later in
    let this = one_turn before.limits session _ taken.asked _ taken.turn does.own does.makes in
    record {
      adds = record {
        mine_is = rest.adds.mine_is ∙ ap (λ (l : List Mark). l ++ marks) does.mine_is ∙ append_assoc (mine before) does.own marks;
        by = all_both _ does.own marks this.by rest.adds.by;
        given = how_many_both _ does.own marks ∙ omega (arith, this.given, rest.adds.given, how_many_more came_given taken more_turns);
        empty = how_many_both _ does.own marks ∙ omega (arith, this.empty, rest.adds.empty, how_many_more came_empty taken more_turns);
        opened = how_many_both _ does.own marks ∙ omega (arith, this.opened, rest.adds.opened, how_many_more came_open taken more_turns);
      };
      more = does.others ++ (does.own ++ rest.more);
      now = seen_on before mid after does.found does.own does.others rest.more does.found_is does.now rest.now;
    }
