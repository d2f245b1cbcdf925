-- Where no setting is refused, that which counts is kept.
use mathlib.Core.List.{reverse-cons}
use Rattle.std.proofs.{Common.{◌≡◌, ℕ, Bool, true, false, cond, List, [], ◌∷◌, ◌++◌, find, reverse, Option, Some, None, refl, sym, ap, ◌∙◌, subst}, lemmas.{Bool.cond_both, List.Folds.list_any-append, Slice.Eq.bytes_eq-Decides}}
use Rattle.std.specs.{Prelude.{◌||◌, ◌&&◌}, List.list_any, Option.{option_and_then, option_or, option_map_or}, Str.bytes_eq}
use Rattle.agent_conf.specs.{Numbers.{greatest_of, kept_in, number_in}, Settled.{Texts, all_of, is_of, last_of, option_of, settled}, Starts.{kept_of, told_of}, Table.row_of, Written.Written}
use Rattle.agent_conf.specs.Verdicts.{Told, begins_group, has_refusal, is_refused, is_text, kept_verdict, known_verdict, named_verdict, note_of, number_verdict, told_from, verdict_of}
use Rattle.agent_conf.specs.declared.{numbers.Range.Range, table.Row.{Row, TheVariants.Number}, verdict.{Refusal.TheVariants.{ForSomeUsers, NotText}, Verdict.{Verdict, TheVariants.{Kept, Nearest, PassedOver, Refused}}}}

-- each of these settings is so
Every : (Written → Type 0) → List Written → Type 0
Every P [] = Unit {0}
Every P (setting ∷ others) = P setting × Every P others

every_append : (P : Written → Type 0) (xs ys : List Written) → Every P xs → Every P ys → Every P (xs ++ ys)
unfolding Every
every_append P [] ys first second = second
every_append P (x ∷ xs) ys first second = (first.0, every_append P xs ys first.1 second)

every_front : (P : Written → Type 0) (xs ys : List Written) → Every P (xs ++ ys) → Every P xs
unfolding Every
every_front P [] ys all = tt
every_front P (x ∷ xs) ys all = (all.0, every_front P xs ys all.1)

every_back : (P : Written → Type 0) (xs ys : List Written) → Every P (xs ++ ys) → Every P ys
unfolding Every
every_back P [] ys all = all
every_back P (x ∷ xs) ys all = every_back P xs ys all.1

every_reverse : (P : Written → Type 0) (xs : List Written) → Every P xs → Every P (reverse xs)
unfolding Every
every_reverse P [] all = tt
every_reverse P (x ∷ xs) all = subst (Every P) (sym (reverse-cons x xs)) (every_append P (reverse xs) (x ∷ []) (every_reverse P xs all.1) (all.0, tt))

-- one that is found is so, and passes
found_is : (P : Written → Type 0) (test : Written → Bool) (xs : List Written) (x : Written) → find test xs ≡ Some x → Every P xs → P x × (test x ≡ true)
unfolding Every
found_is P test [] x found all = absurd (cc found)
found_is P test (y ∷ ys) x found all =
    cond_both (test y) (Some y) (find test ys) (λ o. o ≡ Some x → P x × (test x ≡ true))
    (λ passes same. let is : y ≡ x = cc same in subst (λ (z : Written). P z × (test z ≡ true)) is (all.0, passes))
    (λ _ later. found_is P test ys x later all.1) found

-- a setting that doesn't refuse the start, whichever come before it
IsTaken : List ℕ → List ℕ → Written → Type 0
IsTaken home user setting = (before : List Written) × (is_refused (verdict_of home user before setting) ≡ false)

or_parts : (a b : Bool) → (a || b) ≡ false → (a ≡ false) × (b ≡ false)
or_parts true b none = absurd (cc none)
or_parts false b none = (refl, none)

note_refuses : (setting : Written) (verdict : Verdict) → has_refusal (note_of setting verdict) ≡ false → is_refused verdict ≡ false
note_refuses setting Kept none = refl
note_refuses setting (Nearest kept) none = refl
note_refuses setting (PassedOver passed) none = refl
note_refuses setting (Refused refusal) none = absurd (cc none)

all_taken : (home user : List ℕ) (before settings : List Written) → has_refusal (told_from home user before settings) ≡ false → Every (IsTaken home user) settings
unfolding told_from Every IsTaken
all_taken home user before [] none = tt
all_taken home user before (setting ∷ others) none =
    let verdict = verdict_of home user before setting in
    let parts = or_parts (has_refusal (note_of setting verdict)) (has_refusal (told_from home user (before ++ setting ∷ []) others))
    (sym (list_any-append (λ (one : Told). is_refused one.1) (note_of setting verdict) (told_from home user (before ++ setting ∷ []) others)) ∙ none) in
    ((before, note_refuses setting verdict parts.0), all_taken home user (before ++ setting ∷ []) others parts.1)

-- what counts is among all that is read
counts_is : (P : Written → Type 0) (names : List (List ℕ)) (texts : Texts) (setting : Written) → settled names texts ≡ Some setting → Every P (all_of texts)
    → P setting × (is_of names setting ≡ true)
counts_is P names texts setting counts all =
    let words = every_reverse P texts.words (every_back P (texts.machine ++ texts.home) texts.words all) in
    let files = every_front P (texts.machine ++ texts.home) texts.words all in
    let home = every_reverse P texts.home (every_back P texts.machine texts.home files) in
    let machine = every_reverse P texts.machine (every_front P texts.machine texts.home files) in
    go (last_of names texts.words) (last_of names texts.home) refl refl words home machine counts
  where
    go : (word line : Option Written) → last_of names texts.words ≡ word → last_of names texts.home ≡ line
        → Every P (reverse texts.words) → Every P (reverse texts.home) → Every P (reverse texts.machine)
        → option_or word (option_or line (last_of names texts.machine)) ≡ Some setting → P setting × (is_of names setting ≡ true)
    go (Some word) line first second words home machine counts = found_is P (is_of names) (reverse texts.words) setting (first ∙ counts) words
    go None (Some line) first second words home machine counts = found_is P (is_of names) (reverse texts.home) setting (second ∙ counts) home
    go None None first second words home machine counts = found_is P (is_of names) (reverse texts.machine) setting counts machine

-- a setting of one name names it
names_it : (name : List ℕ) (option : Option (List ℕ)) → option_map_or (λ o. list_any (λ n. bytes_eq n o) (name ∷ [])) option false ≡ true → option ≡ Some name
names_it name None is = absurd (cc is)
names_it name (Some option) is = ap Some (sym ((bytes_eq-Decides name option).0 (one_of (bytes_eq name option) is)))
  where
    one_of : (b : Bool) → (b || false) ≡ true → b ≡ true
    one_of true same = refl
    one_of false same = same

kept_where_taken : (range : Range) (written : ℕ) (kept : Option ℕ) → is_refused (kept_verdict (greatest_of range) written kept) ≡ false → (number : ℕ) × (kept ≡ Some number)
kept_where_taken range written None taken = absurd (cc taken)
kept_where_taken range written (Some number) taken = (number, refl)

number_where_taken : (range : Range) (written : Option ℕ) → is_refused (number_verdict range written) ≡ false → (number : ℕ) × (option_and_then (kept_in range) written ≡ Some number)
number_where_taken range None taken = absurd (cc taken)
number_where_taken range (Some written) taken = kept_where_taken range written (kept_in range written) taken

-- the first of two where the second is refused
first_taken : (test : Bool) (verdict other : Verdict) → is_refused other ≡ true → is_refused (cond test verdict other) ≡ false → is_refused verdict ≡ false
first_taken true verdict other refused taken = taken
first_taken false verdict other refused taken = absurd (cc (refused, taken))

second_taken : (test : Bool) (other verdict : Verdict) → is_refused other ≡ true → is_refused (cond test other verdict) ≡ false → is_refused verdict ≡ false
second_taken true other verdict refused taken = absurd (cc (refused, taken))
second_taken false other verdict refused taken = taken

-- the number that counts is kept, where no setting is refused
pub number_counts : (home user : List ℕ) (texts : Texts) (name : List ℕ) (range : Range) (setting : Written) → row_of name ≡ Some (Number range)
    → has_refusal (told_of home user texts) ≡ false → settled (name ∷ []) texts ≡ Some setting → (number : ℕ) × (kept_of range setting.value ≡ Some number)
unfolding verdict_of IsTaken
number_counts home user texts name range setting row none counts =
    let is = counts_is (IsTaken home user) (name ∷ []) texts setting counts (all_taken home user [] (all_of texts) none) in
    let option = names_it name (option_of setting) is.1 in
    let before = is.0.0 in
    let text = first_taken (is_text setting.text && is_text setting.value) (named_verdict home user before setting (option_of setting)) (Refused NotText) refl is.0.1 in
    let named = subst (λ (o : Option (List ℕ)). is_refused (named_verdict home user before setting o) ≡ false) option text in
    let known = second_taken (begins_group setting.place name) (Refused ForSomeUsers) (known_verdict home user before setting name (row_of name)) refl named in
    let by_row = subst (λ (o : Option Row). is_refused (known_verdict home user before setting name o) ≡ false) row known in
    number_where_taken range (number_in setting.value) by_row
