-- The plain book and the histories that it was given.
use Rattle.std.specs.{Prelude.{◌≡◌, ℕ, ◌+◌, ◌-◌, List, [], ◌∷◌, ◌++◌, length, map, reverse, find, fold, max, Bool, true, false, not, ◌&&◌, Option, Some, None, IfSome, refl, cond, if◌then◌else◌}, List.AllByRecursion}
use Rattle.std.{specs.Option.{option_map, option_and_then}, proofs.{Common.{ap, sym, ◌∙◌, subst, add_assoc}, lemmas.List.{append-nil, map-append, length_push}}}
use Rattle.agent_ports.specs.declared.session.SessionId.{SessionId}
use Rattle.cache_policy.specs.declared.{mode.Mode.Mode, life.{Life.{Life, TheVariants.Endless}, Limits.Limits}, mark.{Way.Way, Mark.Mark, MarkStep.{MarkStep, TheVariants.{Ask, Seat, Close, Put, Clear, Flush, Peek, Stop}}}}
use Rattle.cache_policy.specs.{declared.{mark.MarkReply.MarkReply, entry.Entry.Entry}, Entry.{serves, within}, Histories.{History, next_number, with_mark, marks_after, moments}, Entries.{entry_of, entries}}
use Rattle.cache_policy.specs.{Live.{newest, takes_away, gone, gives, last_use, is_live, live}, Book.{Book, after_put, found, put_mark, ask_mark, is_put, is_put_or_ask, IsPut, IsPutOrAsk, IsEndless, IsBookOf, unnumbered, IsEndlessBookOf}}
use Rattle.cache_policy.proofs.{Lists.{all_append, all_drop, all_reverse, all_find, any_none, filter_none, all_weaker, map_reverse, find_map}, EntriesLemmas.entries_with_mark}

-- a put is a put or an ask
put_is_either : (step : MarkStep) → is_put step ≡ true → is_put_or_ask step ≡ true
put_is_either (Put id mode life secret) h = refl
put_is_either (Ask id mode way since) h = refl
put_is_either (Seat under since) h = cc
put_is_either (Close ticket keep) h = cc
put_is_either (Clear id mode) h = cc
put_is_either Flush h = cc
put_is_either (Peek id mode) h = cc
put_is_either Stop h = cc

-- a put or an ask takes nothing away
takes_nothing : (entry : Entry) (step : MarkStep) → is_put_or_ask step ≡ true → takes_away entry step ≡ false
takes_nothing entry (Put id mode life secret) h = refl
takes_nothing entry (Ask id mode way since) h = refl
takes_nothing entry (Seat under since) h = refl
takes_nothing entry (Close ticket keep) h = refl
takes_nothing entry (Clear id mode) h = cc
takes_nothing entry Flush h = cc
takes_nothing entry (Peek id mode) h = refl
takes_nothing entry Stop h = refl

-- so nothing is gone
nothing_gone : (history : History) (entry : Entry) →
    AllByRecursion IsPutOrAsk history.marks → gone history entry ≡ false
nothing_gone history entry h =
    any_none (λ (mark : Mark). takes_away entry mark.step) (marks_after history entry.number)
    (all_weaker IsPutOrAsk (λ (mark : Mark). takes_away entry mark.step ≡ false)
    (λ mark k. takes_nothing entry mark.step k) (marks_after history entry.number)
    (all_drop IsPutOrAsk (entry.number + 1 - history.base) history.marks h))

-- over puts alone no entry is ever used
never_used : (history : History) (entry : Entry) → AllByRecursion IsPut history.marks →
    last_use history entry ≡ entry.entered
never_used history entry h =
    ap (λ (marks : List Mark). fold max entry.entered (moments marks))
    (filter_none (λ (mark : Mark). gives entry.number mark.reply) history.marks
    (all_weaker IsPut (λ (mark : Mark). gives entry.number mark.reply ≡ false)
    (λ mark k. ap (gives entry.number) k.reply) history.marks h))

-- over puts alone the live entry is the one that is found
pub live_puts_alone : (limits : Limits) (history : History) (id : List ℕ) (mode : Mode) (moment : ℕ) →
    AllByRecursion IsPut history.marks → live limits history id mode moment
    ≡ found (entries limits history) id mode moment
live_puts_alone limits history id mode moment h = same (newest limits history id mode)
  where
    steps : AllByRecursion IsPutOrAsk history.marks
    steps = all_weaker IsPut IsPutOrAsk (λ mark k. put_is_either mark.step k.step) history.marks h

    same : (o : Option Entry) →
        option_and_then (λ entry. if is_live history moment entry then Some entry else None) o
        ≡ option_and_then (λ entry. if within entry entry.entered moment then Some entry else None) o
    same None = refl
    same (Some entry) =
        ap (λ (b : Bool). if (not b && within entry (last_use history entry) moment) then Some entry else None)
        (nothing_gone history entry steps)
        ∙ ap (λ (last : ℕ). if within entry last moment then Some entry else None) (never_used history entry h)

-- the book of a history of puts gives what is live
pub found_puts_alone : (limits : Limits) (history : History) (book : Book) (id : List ℕ) (mode : Mode) (moment : ℕ) →
    IsBookOf limits history book → found book.entries id mode moment ≡ live limits history id mode moment
found_puts_alone limits history book id mode moment h =
    ap (λ (list : List Entry). found list id mode moment) (sym h.same)
    ∙ sym (live_puts_alone limits history id mode moment h.puts)

-- and it stays so after a put
book_of_after_put : (limits : Limits) (history : History) (book : Book) (session : SessionId) (moment : ℕ)
    (id : List ℕ) (mode : Mode) (life : Life) (secret : List ℕ) →
    IsBookOf limits history book → IsBookOf limits (with_mark history (put_mark session moment id mode life secret))
    (after_put limits book moment id mode life secret)
book_of_after_put limits history book session moment id mode life secret h = record {
  puts = all_append IsPut history.marks (put_mark session moment id mode life secret ∷ []) h.puts
      (record { step = refl; reply = refl }, tt);
  numbers = ap (λ (n : ℕ). history.base + n) (length_push history.marks
      (put_mark session moment id mode life secret)) ∙ (sym (add_assoc history.base (length history.marks) 1)
      ∙ ap (λ (n : ℕ). n + 1) h.numbers);
  same = entries_with_mark limits history (put_mark session moment id mode life secret)
      ∙ (ap (λ (list : List Entry). list ++ entry_of limits (next_number history) moment id mode life secret) h.same
      ∙ ap (λ (n : ℕ). book.entries ++ entry_of limits n moment id mode life secret) h.numbers);
}

-- without a ttl the last use does not matter
endless_within : (entry : Entry) (last other moment : ℕ) → entry.ttl ≡ None →
    within entry last moment ≡ within entry other moment
endless_within entry last other moment h =
    ap (λ (ttl : Option ℕ). within (record entry { ttl = ttl }) last moment) h
    ∙ sym (ap (λ (ttl : Option ℕ). within (record entry { ttl = ttl }) other moment) h)

-- over puts and asks the live entry is the one that is found, where each entry is endless
live_endless : (limits : Limits) (history : History) (id : List ℕ) (mode : Mode) (moment : ℕ) →
    AllByRecursion IsPutOrAsk history.marks →
    AllByRecursion IsEndless (entries limits history) →
    live limits history id mode moment ≡ found (entries limits history) id mode moment
live_endless limits history id mode moment steps endless =
    same (newest limits history id mode)
    (all_find IsEndless (serves id mode) (reverse (entries limits history))
    (all_reverse IsEndless (entries limits history) endless))
  where
    same : (o : Option Entry) → IfSome o (λ entry. entry.ttl ≡ None) →
        option_and_then (λ entry. if is_live history moment entry then Some entry else None) o
        ≡ option_and_then (λ entry. if within entry entry.entered moment then Some entry else None) o
    same None h = refl
    same (Some entry) h =
        ap (λ (b : Bool). if (not b && within entry (last_use history entry) moment) then Some entry else None)
        (nothing_gone history entry steps)
        ∙ ap (λ (b : Bool). if b then Some entry else None) (endless_within entry
        (last_use history entry) entry.entered moment h)

-- numbers aside, endless entries are endless
to_unnumbered : (list : List Entry) → AllByRecursion IsEndless list → AllByRecursion IsEndless (map unnumbered list)
to_unnumbered [] h = tt
to_unnumbered (entry ∷ list) h = (h.0, to_unnumbered list h.1)

from_unnumbered : (list : List Entry) → AllByRecursion IsEndless (map unnumbered list) → AllByRecursion IsEndless list
from_unnumbered [] h = tt
from_unnumbered (entry ∷ list) h = (h.0, from_unnumbered list h.1)

-- what is found does not depend on the numbers
found_unnumbered : (list : List Entry) (id : List ℕ) (mode : Mode) (moment : ℕ) →
    found (map unnumbered list) id mode moment ≡ option_map unnumbered (found list id mode moment)
found_unnumbered list id mode moment =
    ap (λ (o : Option Entry). option_and_then passing o)
    (ap (find (serves id mode)) (sym (map_reverse unnumbered list))
    ∙ find_map unnumbered (serves id mode) (λ entry. refl) (reverse list))
    ∙ after (find (serves id mode) (reverse list))
  where
    passing : Entry → Option Entry
    passing entry = if within entry entry.entered moment then Some entry else None

    after : (o : Option Entry) → option_and_then passing (option_map unnumbered o)
        ≡ option_map unnumbered (option_and_then passing o)
    after None = refl
    after (Some entry) =
        elim (within entry entry.entered moment) as (λ b. cond b (Some (unnumbered entry)) None
        ≡ option_map unnumbered (cond b (Some entry) None)) [ true ↦ refl | false ↦ refl ]

-- the secret that a request is given
abbrev its_secret : Entry → List ℕ
its_secret entry = entry.secret

secret_unnumbered : (o : Option Entry) → option_map its_secret (option_map unnumbered o) ≡ option_map its_secret o
secret_unnumbered None = refl
secret_unnumbered (Some entry) = refl

-- the book of endless puts and asks gives the live secret
pub found_endless : (limits : Limits) (history : History) (book : Book) (id : List ℕ) (mode : Mode) (moment : ℕ) →
    IsEndlessBookOf limits history book →
    option_map its_secret (found book.entries id mode moment)
    ≡ option_map its_secret (live limits history id mode moment)
found_endless limits history book id mode moment h =
    sym (secret_of book.entries)
    ∙ (ap (λ (list : List Entry). option_map its_secret (found list id mode moment)) (sym h.same)
    ∙ (secret_of (entries limits history)
    ∙ ap (option_map its_secret) (sym (live_endless limits history id mode moment h.steps endless))))
  where
    endless : AllByRecursion IsEndless (entries limits history)
    endless = from_unnumbered (entries limits history) (subst (AllByRecursion IsEndless) (sym h.same)
        (to_unnumbered book.entries h.endless))

    secret_of : (list : List Entry) → option_map its_secret (found (map unnumbered list) id mode moment)
        ≡ option_map its_secret (found list id mode moment)
    secret_of list = ap (option_map its_secret) (found_unnumbered list id mode moment)
        ∙ secret_unnumbered (found list id mode moment)

-- it stays so after a put
endless_book_of_after_put : (limits : Limits) (history : History) (book : Book) (session : SessionId) (moment : ℕ)
    (id : List ℕ) (mode : Mode) (life : Life) (secret : List ℕ) →
    life ≡ Endless → IsEndlessBookOf limits history book →
    IsEndlessBookOf limits (with_mark history (put_mark session moment id mode life secret))
    (after_put limits book moment id mode life secret)
endless_book_of_after_put limits history book session moment id mode life secret e h =
    subst (λ (life : Life). IsEndlessBookOf limits (with_mark history (put_mark session moment id mode life secret))
    (after_put limits book moment id mode life secret)) (sym e) (record {
      steps = all_append IsPutOrAsk history.marks (put_mark session moment id mode Endless secret ∷ []) h.steps
          (refl, tt);
      endless = all_append IsEndless book.entries
          (entry_of limits book.puts moment id mode Endless secret) h.endless (refl, tt);
      same = ap (map unnumbered) (entries_with_mark limits history (put_mark session moment id mode Endless secret))
          ∙ (map-append unnumbered (entries limits history) (entry_of limits
          (next_number history) moment id mode Endless secret)
          ∙ (ap (λ (list : List Entry). list ++ map unnumbered (entry_of limits
          (next_number history) moment id mode Endless secret)) h.same
          ∙ sym (map-append unnumbered book.entries (entry_of limits book.puts moment id mode Endless secret))));
    })

-- and after an ask, which leaves the book alone
pub endless_book_of_ask : (limits : Limits) (history : History) (book : Book) (session : SessionId) (moment : ℕ)
    (id : List ℕ) (mode : Mode) (way : Way) (since : Option ℕ) (reply : MarkReply) →
    IsEndlessBookOf limits history book → IsEndlessBookOf limits (with_mark history
    (ask_mark session moment id mode way since reply)) book
endless_book_of_ask limits history book session moment id mode way since reply h = record {
  steps = all_append IsPutOrAsk history.marks (ask_mark session moment id mode way since reply ∷ []) h.steps (refl, tt);
  endless = h.endless;
  same = ap (map unnumbered) (entries_with_mark limits history (ask_mark session moment id mode way since reply)
      ∙ append-nil (entries limits history)) ∙ h.same;
}

-- both for a book that is known to be the one after the put
pub book_of_put : (limits : Limits) (history : History) (book new : Book) (session : SessionId) (moment : ℕ)
    (id : List ℕ) (mode : Mode) (life : Life) (secret : List ℕ) →
    new ≡ after_put limits book moment id mode life secret → IsBookOf limits history book →
    IsBookOf limits (with_mark history (put_mark session moment id mode life secret)) new
book_of_put limits history book new session moment id mode life secret e h =
    subst (IsBookOf limits (with_mark history (put_mark session moment id mode life secret))) (sym e)
    (book_of_after_put limits history book session moment id mode life secret h)

pub endless_book_of_put : (limits : Limits) (history : History) (book new : Book) (session : SessionId) (moment : ℕ)
    (id : List ℕ) (mode : Mode) (life : Life) (secret : List ℕ) →
    new ≡ after_put limits book moment id mode life secret → life ≡ Endless → IsEndlessBookOf limits history book →
    IsEndlessBookOf limits (with_mark history (put_mark session moment id mode life secret)) new
endless_book_of_put limits history book new session moment id mode life secret e endless h =
    subst (IsEndlessBookOf limits (with_mark history (put_mark session moment id mode life secret))) (sym e)
    (endless_book_of_after_put limits history book session moment id mode life secret endless h)
