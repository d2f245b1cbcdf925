-- Actions of a request on keys, by which nothing is handed to the cache but the request's own: how they follow one another.
use Rattle.std.{specs.{List.AllByRecursion, Prelude.⊤}, proofs.Common.{◌≡◌, ℕ, Bool, true, false, List, [], ◌∷◌, ◌++◌, Option, Some, None, Result, Ok, Err, refl, sym, subst, append_assoc, append-nil}}
use Rattle.agent_ask.{specs.Session.{PortCalls.PortCall, SessionEvents.{CacheTurn, cache_turn}, Actions.{◌>>=◌, Returns, Refuses, needed, wanted}}, proofs.Within.{HoldsOf, Within, Joins, weaker, bind, returned_so, refused_so}}
use Rattle.{cache_policy.specs.{Turns.Turn, declared.mark.MarkStep.{MarkStep, TheVariants.Close}}, agent_commands.specs.Events.EventWith, session_client.specs.declared.{code.Code.Code, refusal.Refusal.{Refusal, TheVariants.Agent}}}
use Rattle.key_commands.{specs.Actions.Action, proofs.EachEvent.EachSo}
use Rattle.agent_session.{specs.{Imports.HandsNothing, OwnPassphrases.HandsIn}, proofs.{AtOnce.FitsTurn, Standing.{each_left, each_right}, Courses.Works.{Keeps, each_fits}}}

-- it hands no passphrase to the cache
abbrev pub IsQuiet : EventWith PortCall → Type 0
IsQuiet event = HandsNothing event

-- nor does a ticket's return by which nothing is kept
pub kept_none : (ticket : ℕ) → HandsIn (Close ticket None) → ⊥
kept_none ticket hands = elim hands [ ]

abbrev pub Fit : List (EventWith PortCall) → Type 0
Fit events = AllByRecursion FitsTurn events

-- what is so of what was done before and of the ticket that is held
abbrev pub Fact : Type 1
Fact = List (EventWith PortCall) → Option ℕ → Type 0

-- ---- actions

pub whatever : {A : Type 0} {Is : Type 0} (result : Result A Refusal) → Is → HoldsOf (λ value. Is) result
whatever (Ok value) is = is
whatever (Err why) is = tt

-- what stays so, whatever is done
pub record Stays (Pre : Fact) : Type 0 where
  pub of : (prior more : List (EventWith PortCall)) (held : Option ℕ) → Pre prior held → Pre (prior ++ more) held

-- an action that hands nothing in, and leaves the ticket, by which something becomes so
abbrev pub QuietWith : {A : Type 0} → Action A → (A → List (EventWith PortCall) → Type 0) → Type 0
QuietWith {A} action Extra = (prior : List (EventWith PortCall)) (before : Option ℕ) (events : List (EventWith PortCall)) (result : Result A Refusal) (after : Option ℕ) → action before events result after → Fit events
    → AllByRecursion IsQuiet events × (after ≡ before) × HoldsOf (λ value. Extra value (prior ++ events)) result

abbrev pub Quiet : {A : Type 0} → Action A → Type 0
Quiet {A} action = (before : Option ℕ) (events : List (EventWith PortCall)) (result : Result A Refusal) (after : Option ℕ) → action before events result after → Fit events → AllByRecursion IsQuiet events × (after ≡ before)

-- work in which nothing is handed in, and that leaves the ticket
pub quiet_keeps : {A : Type 0} {action : Action A} → Keeps IsQuiet action → Quiet action
quiet_keeps keeps before events result after does fits = let so = keeps before events result after does in (each_fits IsQuiet tt so.0, so.1)

with_both : {A : Type 0} {Is : Type 0} (Extra : A → Type 0) (result : Result A Refusal) → Is → HoldsOf Extra result → HoldsOf (λ value. Is × Extra value) result
with_both Extra (Ok value) is extra = (is, extra)
with_both Extra (Err why) is extra = tt

-- nothing is known
abbrev pub Anything : Fact
Anything prior held = ⊤

-- `Stores` is what is so of a step by which something is handed in, behind what was done before
module _ (Stores : List (EventWith PortCall) → MarkStep → Type 0) where
  -- ---- events behind others

  -- what it hands to the cache is the request's own, by what was done before
  abbrev pub IsOwn : List (EventWith PortCall) → EventWith PortCall → Type 0
  IsOwn before (CacheTurn taken) = HandsIn taken.asked → Stores before taken.asked
  IsOwn before _ = ⊤

  abbrev pub AreOwn : List (EventWith PortCall) → List (EventWith PortCall) → Type 0
  AreOwn before [] = ⊤
  AreOwn before (event ∷ more) = IsOwn before event × AreOwn (before ++ event ∷ []) more

  pub own_then : (before first more : List (EventWith PortCall)) → AreOwn before first → AreOwn (before ++ first) more → AreOwn before (first ++ more)
  own_then before [] more own own_more = subst (λ b. AreOwn b more) (append-nil before) own_more
  own_then before (event ∷ first) more own own_more =
      (own.0, own_then (before ++ event ∷ []) first more own.1 (subst (λ b. AreOwn b more) (sym (append_assoc before (event ∷ []) first)) own_more))

  pub own_left : (before first more : List (EventWith PortCall)) → AreOwn before (first ++ more) → AreOwn before first
  own_left before [] more own = tt
  own_left before (event ∷ first) more own = (own.0, own_left (before ++ event ∷ []) first more own.1)

  quiet_own : (before : List (EventWith PortCall)) (event : EventWith PortCall) → IsQuiet event → IsOwn before event
  quiet_own before (CacheTurn taken) quiet = λ hands. absurd (quiet hands)
  quiet_own before _ quiet = tt

  pub quiet_are_own : (before events : List (EventWith PortCall)) → AllByRecursion IsQuiet events → AreOwn before events
  quiet_are_own before [] each = tt
  quiet_are_own before (event ∷ more) each = (quiet_own before event each.0, quiet_are_own (before ++ event ∷ []) more each.1)

  -- the event at this place
  pub own_at : (before events front : List (EventWith PortCall)) (asked : MarkStep) (turn : Turn) (back : List (EventWith PortCall)) → AreOwn before events → events ≡ front ++ cache_turn asked turn ∷ back → HandsIn asked
      → Stores (before ++ front) asked
  own_at before [] [] asked turn back own is hands = cc is
  own_at before [] (first ∷ front) asked turn back own is hands = cc is
  own_at before (event ∷ more) [] asked turn back own is hands =
      let same : event ≡ cache_turn asked turn = cc is in
      let there : HandsIn asked → Stores before asked = subst (IsOwn before) same own.0 in
      subst (λ b. Stores b asked) (sym (append-nil before)) (there hands)
  own_at before (event ∷ more) (first ∷ front) asked turn back own is hands =
      let same : event ≡ first = cc is in
      let rest : more ≡ front ++ cache_turn asked turn ∷ back = cc is in
      subst (λ b. Stores b asked) (append_assoc before (first ∷ []) front)
      (own_at (before ++ first ∷ []) more front asked turn back (subst (λ e. AreOwn (before ++ e ∷ []) more) same own.1) rest hands)

  -- ---- actions

  -- where this is so of what was done before and of the ticket that is held, an action's events are the request's own, and then that is so
  pub record Owns {A : Type 0} (Pre : Fact) (Post : A → Fact) (before : Option ℕ) (events : List (EventWith PortCall)) (result : Result A Refusal) (after : Option ℕ) : Type 0 where
    pub so : (prior : List (EventWith PortCall)) → Fit events → Pre prior before → AreOwn prior events × HoldsOf (λ value. Post value (prior ++ events) after) result

  abbrev pub OwnSo : {A : Type 0} → Fact → Action A → (A → Fact) → Type 0
  OwnSo Pre action Post = Within action (Owns Pre Post)

  pub owns : {A : Type 0} {Pre : Fact} {Post : A → Fact} {action : Action A} → ((prior : List (EventWith PortCall)) (before : Option ℕ) (events : List (EventWith PortCall)) (result : Result A Refusal) (after : Option ℕ)
      → action before events result after → Fit events → Pre prior before → AreOwn prior events × HoldsOf (λ value. Post value (prior ++ events) after) result) → OwnSo Pre action Post
  owns so = record { of = λ before events result after does. record { so = λ prior. so prior before events result after does } }

  owns_join : {A B : Type 0} {Pre : Fact} {Mid : A → Fact} {Post : B → Fact} → Joins (Owns Pre Mid) (λ value. Owns (Mid value) Post) (Owns Pre Post)
  owns_join {Post} = record {
    then = λ {before} {mid} {after} some later {value} {result} first more. record {
      so = λ prior fits pre.
          let one = first.so prior (each_left FitsTurn some later fits) pre in
          let two = more.so (prior ++ some) (each_right FitsTurn some later fits) one.1 in
          (own_then prior some later one.0 two.0, subst (λ p. HoldsOf (λ value. Post value p after) result) (append_assoc prior some later) two.1);
    };
    alone = λ first. record { so = λ prior fits pre. ((first.so prior fits pre).0, tt) };
  }

  pub own_bind : {A B : Type 0} {Pre : Fact} {Mid : A → Fact} {Post : B → Fact} {action : Action A} {next : A → Action B} → OwnSo Pre action Mid → ((value : A) → OwnSo (Mid value) (next value) Post) → OwnSo Pre (action >>= next) Post
  own_bind = bind owns_join

  -- what is so then is more than is wanted
  module _ {A : Type 0} {Post Other : A → Fact} (narrows : (value : A) (prior : List (EventWith PortCall)) (held : Option ℕ) → Post value prior held → Other value prior held) where
    narrows_of : (prior : List (EventWith PortCall)) (after : Option ℕ) (result : Result A Refusal) → HoldsOf (λ value. Post value prior after) result → HoldsOf (λ value. Other value prior after) result
    narrows_of prior after (Ok value) holds = narrows value prior after holds
    narrows_of prior after (Err why) holds = tt

  pub own_weaker : {A : Type 0} {Pre : Fact} {Post Other : A → Fact} {action : Action A} → OwnSo Pre action Post
      → ((value : A) (prior : List (EventWith PortCall)) (held : Option ℕ) → Post value prior held → Other value prior held) → OwnSo Pre action Other
  own_weaker own narrows = weaker (record {
    of = λ before events result after owned. record { so = λ prior fits pre. let so = owned.so prior fits pre in (so.0, narrows_of narrows (prior ++ events) after result so.1) };
  }) own

  pub own_where : {A : Type 0} {Pre Wider : Fact} {Post : A → Fact} {action : Action A} → ((prior : List (EventWith PortCall)) (held : Option ℕ) → Pre prior held → Wider prior held) → OwnSo Wider action Post → OwnSo Pre action Post
  own_where narrows = weaker (record { of = λ before events result after owned. record { so = λ prior fits pre. owned.so prior fits (narrows prior before pre) } })

  module _ {Pre : Fact} (stays : Stays Pre) {A : Type 0} {action : Action A} where
    pub quiet_with : {Extra : A → List (EventWith PortCall) → Type 0} → QuietWith action Extra → OwnSo Pre action (λ value prior held. Pre prior held × Extra value prior)
    quiet_with {Extra} quiet = owns (λ prior before events result after does fits pre.
        let so = quiet prior before events result after does fits in
        (quiet_are_own prior events so.0, with_both (λ value. Extra value (prior ++ events)) result (subst (Pre (prior ++ events)) (sym so.1) (stays.of prior events before pre)) so.2))

    pub quietly : Quiet action → OwnSo Pre action (λ value. Pre)
    quietly quiet = owns (λ prior before events result after does fits pre.
        let so = quiet before events result after does fits in
        (quiet_are_own prior events so.0, whatever result (subst (Pre (prior ++ events)) (sym so.1) (stays.of prior events before pre))))

  -- one of which each event is quiet
  pub each_quiet : {A : Type 0} {Pre : Fact} {action : Action A} → EachSo IsQuiet action → OwnSo Pre action (λ value. Anything)
  each_quiet each = owns (λ prior before events result after does fits pre. (quiet_are_own prior events (each.of before events result after does), whatever result tt))

  -- ---- the simplest ones

  module _ {Pre : Fact} where
    pub own_returned : {A : Type 0} {Post : A → Fact} (value : A) → ((prior : List (EventWith PortCall)) (held : Option ℕ) → Pre prior held → Post value prior held) → OwnSo Pre (Returns value) Post
    own_returned {Post} value so = returned_so value (λ held. record { so = λ prior fits pre. (tt, subst (λ p. Post value p held) (sym (append-nil prior)) (so prior held pre)) })

    pub own_refused : {A : Type 0} {Post : A → Fact} (why : Refusal) → OwnSo Pre (Refuses {A = A} why) Post
    own_refused why = refused_so why (λ held. record { so = λ prior fits pre. (tt, tt) })

    pub own_needed : {A : Type 0} (why : Code) (value : Option A) → OwnSo Pre (needed why value) (λ value. Pre)
    own_needed why None = own_refused (Agent why)
    own_needed why (Some value) = own_returned value (λ prior held pre. pre)

    -- and what was needed is there
    pub own_there : {A : Type 0} (why : Code) (value : Option A) → OwnSo Pre (needed why value) (λ found prior held. Pre prior held × (value ≡ Some found))
    own_there why None = own_refused (Agent why)
    own_there why (Some value) = own_returned value (λ prior held pre. (pre, refl))

    pub own_wanted : (why : Code) (so : Bool) → OwnSo Pre (wanted why so) (λ value. Pre)
    own_wanted why true = own_returned tt (λ prior held pre. pre)
    own_wanted why false = own_refused (Agent why)
