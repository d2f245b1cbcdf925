-- A run whose last history is known, and the run with one mark more.
use Rattle.std.{specs.Prelude.{◌≡◌, ℕ, ◌<◌, ◌≤◌, ◌==◌, List, [], ◌∷◌, ◌++◌, length, Bool, true, false, Some, refl, vec_len, vec_capacity, if◌then◌else◌}, proofs.{Common.{ap, sym, ◌∙◌, subst, arith}, lemmas.Bool.Decides.nat_tests}}
use Rattle.std.proofs.lemmas.List.{map-append}
use Rattle.cache_policy.specs.{declared.{bounds.TheConstants.MAX_MARKS, mark.Mark.Mark, history.History.History as HistoryInMemory}, Histories.{History, with_mark, history_of, run_of}, Runs.{turn_over, last_history, run_with_mark}}
use Rattle.agent_core.specs.{Recording.LastHasRoom, Adding.HasPlace}

pub last_append : (front : List History) (last : History) → last_history (front ++ last ∷ []) ≡ Some last
last_append [] last = refl
last_append (first ∷ []) last = refl
last_append (first ∷ next ∷ later) last = last_append (next ∷ later) last

not_full : (n : ℕ) → n < MAX_MARKS → (n == MAX_MARKS) ≡ false
not_full n h = grind (arith, nat_tests)

is_full : (n : ℕ) → n ≡ MAX_MARKS → (n == MAX_MARKS) ≡ true
is_full n h = grind (arith, nat_tests)

pub add_append : (front : List History) (last : History) (mark : Mark) → length last.marks < MAX_MARKS
    → run_with_mark (front ++ last ∷ []) mark ≡ front ++ with_mark last mark ∷ []
add_append [] last mark few =
    ap (λ (b : Bool). if b then last ∷ with_mark (turn_over last) mark ∷ [] else with_mark last mark ∷ []) (not_full (length last.marks) few)
add_append (first ∷ []) last mark few = ap (λ (later : List History). first ∷ later) (add_append [] last mark few)
add_append (first ∷ next ∷ later) last mark few = ap (λ (l : List History). first ∷ l) (add_append (next ∷ later) last mark few)

pub add_full : (run : List History) (last : History) (mark : Mark) → last_history run ≡ Some last → length last.marks ≡ MAX_MARKS
    → run_with_mark run mark ≡ run ++ with_mark (turn_over last) mark ∷ []
add_full [] last mark is full = absurd (cc)
add_full (first ∷ []) last mark is full =
    let same : last ≡ first = cc in
    subst (λ (h : History). length h.marks ≡ MAX_MARKS → run_with_mark (first ∷ []) mark ≡ first ∷ with_mark (turn_over h) mark ∷ []) (sym same)
    (λ all. ap (λ (b : Bool). if b then first ∷ with_mark (turn_over first) mark ∷ [] else with_mark first mark ∷ []) (is_full (length first.marks) all)) full
add_full (first ∷ next ∷ later) last mark is full = ap (λ (l : List History). first ∷ l) (add_full (next ∷ later) last mark is full)

-- what is last in front of a place
place_last : (items front : List History) (last : History) → items ≡ front ++ last ∷ [] → HasPlace items → length last.marks < MAX_MARKS
place_last items front last is place =
    let e : Some place.last ≡ Some last = sym place.last_is ∙ (ap last_history is ∙ last_append front last) in
    let same : place.last ≡ last = cc in
    subst (λ (h : History). length h.marks < MAX_MARKS) same place.few

add_place : (items front new : List History) (last : History) (mark : Mark) → items ≡ front ++ last ∷ [] → HasPlace items → new ≡ front ++ with_mark last mark ∷ []
    → new ≡ run_with_mark items mark
add_place items front new last mark is place added =
    added ∙ (sym (add_append front last mark (place_last items front last is place)) ∙ ap (λ (l : List History). run_with_mark l mark) (sym is))

-- the same of the histories as they are in memory
run_append : (front : List HistoryInMemory) (last : HistoryInMemory) → run_of (front ++ last ∷ []) ≡ run_of front ++ history_of last ∷ []
run_append front last = map-append history_of front (last ∷ [])

room_append : (front : List HistoryInMemory) (last : HistoryInMemory) → MAX_MARKS ≤ vec_capacity last.marks.0 → LastHasRoom (front ++ last ∷ [])
room_append [] last room = room
room_append (first ∷ []) last room = room
room_append (first ∷ next ∷ later) last room = room_append (next ∷ later) last room

pub room_last : (front : List HistoryInMemory) (last : HistoryInMemory) → LastHasRoom (front ++ last ∷ []) → MAX_MARKS ≤ vec_capacity last.marks.0
room_last [] last room = room
room_last (first ∷ []) last room = room
room_last (first ∷ next ∷ later) last room = room_last (next ∷ later) last room

pub room_push : (items front : List HistoryInMemory) (last : HistoryInMemory) → items ≡ front ++ last ∷ [] → MAX_MARKS ≤ vec_capacity last.marks.0 → LastHasRoom items
room_push items front last is room = subst LastHasRoom (sym is) (room_append front last room)

-- there is room for a mark in the history that is taken from the end
pub room_place : (items front : List HistoryInMemory) (last : HistoryInMemory) → items ≡ front ++ last ∷ [] → HasPlace (run_of items) → LastHasRoom items
    → vec_len last.marks.0 < vec_capacity last.marks.0
room_place items front last is place room =
    let few = place_last (run_of items) (run_of front) (history_of last) (ap run_of is ∙ run_append front last) place in
    let all = room_last front last (subst LastHasRoom is room) in
    let ok = last.marks.0.ok in
    omega (arith, few, all)

pub run_place : (items front new : List HistoryInMemory) (last now : HistoryInMemory) (mark : Mark) → items ≡ front ++ last ∷ [] → HasPlace (run_of items)
    → new ≡ front ++ now ∷ [] → history_of now ≡ with_mark (history_of last) mark → run_of new ≡ run_with_mark (run_of items) mark
run_place items front new last now mark is place added same =
    add_place (run_of items) (run_of front) (run_of new) (history_of last) mark (ap run_of is ∙ run_append front last) place
    (ap run_of added ∙ (run_append front now ∙ ap (λ (h : History). run_of front ++ h ∷ []) same))
