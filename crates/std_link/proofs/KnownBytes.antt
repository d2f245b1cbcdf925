-- What reads and writes of known bytes, one after another, come to.
use Rattle.std.proofs.{Common.{◌≡◌, ℕ, ◌+◌, ◌-◌, List, [], ◌++◌, length, take, drop, Option, Some, None, refl, ap, sym, ◌∙◌, arith, append_assoc}, lemmas.List.{take_all, length-drop}, Math.Seq.take-add}
use Rattle.std.specs.Io.KnownBytes.{Keeps, Appends, Consumes}

pub keeps_on : (first mid last : Option (List ℕ)) → Keeps first mid → Keeps mid last → Keeps first last
keeps_on None mid last one two = tt
keeps_on (Some xs) None last one two = absurd one
keeps_on (Some xs) (Some ys) None one two = absurd two
keeps_on (Some xs) (Some ys) (Some zs) one two = two ∙ one

pub consumes_nothing : (bytes : Option (List ℕ)) → Consumes bytes bytes []
consumes_nothing None = tt
consumes_nothing (Some xs) = refl

pub keeps_and_consumes_nothing : (first last : Option (List ℕ)) → Keeps first last → Consumes first last []
keeps_and_consumes_nothing None last keeps = tt
keeps_and_consumes_nothing (Some xs) None keeps = keeps
keeps_and_consumes_nothing (Some xs) (Some ys) keeps = sym keeps

pub keeps_then_consumes : (first mid last : Option (List ℕ)) (bytes : List ℕ) → Keeps first mid → Consumes mid last bytes → Consumes first last bytes
keeps_then_consumes None mid last bytes one two = tt
keeps_then_consumes (Some xs) None last bytes one two = absurd one
keeps_then_consumes (Some xs) (Some ys) None bytes one two = absurd two
keeps_then_consumes (Some xs) (Some ys) (Some zs) bytes one two = sym one ∙ two

pub appends_then_keeps : (first mid last : Option (List ℕ)) (bytes : List ℕ) → Appends first mid bytes → Keeps mid last → Appends first last bytes
appends_then_keeps None mid last bytes one two = tt
appends_then_keeps (Some xs) None last bytes one two = absurd one
appends_then_keeps (Some xs) (Some ys) None bytes one two = absurd two
appends_then_keeps (Some xs) (Some ys) (Some zs) bytes one two = two ∙ one

pub appends_on : (first mid last : Option (List ℕ)) (bytes more all : List ℕ) → Appends first mid bytes → Appends mid last more → bytes ++ more ≡ all → Appends first last all
appends_on None mid last bytes more all one two whole = tt
appends_on (Some xs) None last bytes more all one two whole = absurd one
appends_on (Some xs) (Some ys) None bytes more all one two whole = absurd two
appends_on (Some xs) (Some ys) (Some zs) bytes more all one two whole =
    two ∙ ap (λ (l : List ℕ). l ++ more) one ∙ append_assoc xs bytes more ∙ ap (λ (l : List ℕ). xs ++ l) whole

-- some first bytes, and then the first of what was left
pub first_more : (bytes : List ℕ) (sent count : ℕ) → take sent bytes ++ take count (take (length bytes - sent) (drop sent bytes)) ≡ take (sent + count) bytes
first_more bytes sent count =
    ap (λ (l : List ℕ). take sent bytes ++ take count l) (take_all (length bytes - sent) (drop sent bytes) (omega (arith, length-drop sent bytes)))
    ∙ sym (take-add sent count bytes)

pub length_first : (bytes : List ℕ) (sent : ℕ) → length (take (length bytes - sent) (drop sent bytes)) ≡ length bytes - sent
length_first bytes sent = ap (λ (l : List ℕ). length l) (take_all (length bytes - sent) (drop sent bytes) (omega (arith, length-drop sent bytes))) ∙ length-drop sent bytes
