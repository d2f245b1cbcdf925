-- What limits isn't passed over.
use Rattle.std.proofs.{Common.{◌≡◌, ℕ, Bool, true, false, cond, List, Option, Some, None, refl, sym, subst}, lemmas.{List.{Elements.All-contains, Sums.AllPass-from_list_all}}}
use Rattle.std.specs.{Prelude.{not, ◌==◌, ◌&&◌, Contains, length, nat_le, slice_index}, List.{list_all}, Option.option_map_or}
use Rattle.agent_conf.specs.{Limits.{holds_by, is_listed, is_passed_over, limits, may_pass}, Numbers.{greatest_of, kept_in, number_in}, Paths.{expanded}, Settled.option_of, Table.{row_of, rows}, Written.Written}
use Rattle.agent_conf.specs.{Verdicts.{begins_group, is_text, kept_verdict, known_verdict, named_verdict, number_verdict, path_verdict, row_verdict, verdict_of}, declared.{TheConstants.MAX_PATH_LEN, setting.Place.Place}}
use Rattle.agent_conf.specs.declared.{numbers.Range.Range, verdict.{Refusal.TheVariants.{ForSomeUsers, HasValue, NotAbsolute, NotText, TooLong}, Verdict.{Verdict, TheVariants.{Kept, Nearest, Refused}}}, table.Row.Row}
use Rattle.agent_conf.specs.declared.table.Row.TheVariants.{Number, Flag, Pinentry, ExtraSocket, IgnoresNames, SoAnyway, Unkept, LimitsNothing, Folder, OfWords, Supervised}

-- a choice of two that aren't passed over
neither : (test : Bool) (one other : Verdict) → is_passed_over one ≡ false → is_passed_over other ≡ false → is_passed_over (cond test one other) ≡ false
neither true one other first second = first
neither false one other first second = second

kept_counts : (greatest written : ℕ) (kept : Option ℕ) → is_passed_over (kept_verdict greatest written kept) ≡ false
kept_counts greatest written None = refl
kept_counts greatest written (Some kept) = neither (kept == written) Kept (Nearest kept) refl refl

number_counts : (range : Range) (number : Option ℕ) → is_passed_over (number_verdict range number) ≡ false
number_counts range None = refl
number_counts range (Some written) = kept_counts (greatest_of range) written (kept_in range written)

path_counts : (path : List ℕ) → is_passed_over (path_verdict path) ≡ false
path_counts path =
    neither (slice_index path 0 == 47) (cond (nat_le (length path) MAX_PATH_LEN) Kept (Refused TooLong)) (Refused NotAbsolute)
    (neither (nat_le (length path) MAX_PATH_LEN) Kept (Refused TooLong) refl refl) refl

-- a row of which nothing may be passed over
row_counts : (home user : List ℕ) (place : Place) (row : Row) (value : List ℕ) → not (may_pass row) ≡ true → is_passed_over (row_verdict home user place row value) ≡ false
row_counts home user place (Number range) value limits = number_counts range (number_in value)
row_counts home user place Flag value limits = neither (length value == 0) Kept (Refused HasValue) refl refl
row_counts home user place Pinentry value limits = path_counts (expanded user value)
row_counts home user place ExtraSocket value limits = absurd (cc limits)
row_counts home user place IgnoresNames value limits = absurd (cc limits)
row_counts home user place SoAnyway value limits = refl
row_counts home user place (Unkept unkept takes) value limits = refl
row_counts home user place (LimitsNothing takes) value limits = absurd (cc limits)
row_counts home user place Folder value limits = absurd (cc limits)
row_counts home user place (OfWords takes) value limits = absurd (cc limits)
row_counts home user place Supervised value limits = absurd (cc limits)

known_counts : (home user : List ℕ) (before : List Written) (setting : Written) (name : List ℕ) (row : Option Row)
    → option_map_or (λ r. not (may_pass r)) row false ≡ true → is_passed_over (known_verdict home user before setting name row) ≡ false
known_counts home user before setting name None limits = absurd (cc limits)
known_counts home user before setting name (Some row) limits = row_counts home user setting.place row setting.value limits

-- no option that limits may be passed over
all_count : list_all (λ name. option_map_or (λ r. not (may_pass r)) (row_of name) false) limits ≡ true
unfolding row_of
all_count = refl

pub limit_counts : (home user : List ℕ) (before : List Written) (setting : Written) (name : List ℕ) → option_of setting ≡ Some name → Contains limits name
    → is_passed_over (verdict_of home user before setting) ≡ false
unfolding verdict_of
limit_counts home user before setting name named among =
    let counts = All-contains (λ (n : List ℕ). option_map_or (λ (r : Row). not (may_pass r)) (row_of n) false ≡ true) limits name
    (AllPass-from_list_all (λ (n : List ℕ). option_map_or (λ (r : Row). not (may_pass r)) (row_of n) false) limits all_count) among in
    neither (is_text setting.text && is_text setting.value) (named_verdict home user before setting (option_of setting)) (Refused NotText)
    (subst (λ (o : Option (List ℕ)). is_passed_over (named_verdict home user before setting o) ≡ false) (sym named)
    (neither (begins_group setting.place name) (Refused ForSomeUsers) (known_verdict home user before setting name (row_of name))
    refl (known_counts home user before setting name (row_of name) counts)))
    refl

all_hold : list_all (λ name. option_map_or (holds_by name) (row_of name) false) limits ≡ true
unfolding row_of
all_hold = refl

-- each of them is kept, refused, or so anyway
pub limit_holds : (name : List ℕ) → Contains limits name → option_map_or (holds_by name) (row_of name) false ≡ true
limit_holds name among =
    All-contains (λ (n : List ℕ). option_map_or (holds_by n) (row_of n) false ≡ true) limits name
    (AllPass-from_list_all (λ (n : List ℕ). option_map_or (holds_by n) (row_of n) false) limits all_hold) among

-- the table has no other limit
pub rows_are_listed : list_all is_listed rows ≡ true
rows_are_listed = refl
