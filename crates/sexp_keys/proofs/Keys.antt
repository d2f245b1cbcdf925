-- An expression is one key at most, and where it is one there is no fault.
use Rattle.std.{proofs.Common.{◌≡◌, Bool, true, false, List, ◌∷◌, ◌++◌, Some, None, Ok, Err, Result, IfOk, IfErr, refl, sym, ap, ap₂, ◌∙◌, ◌⊎◌, inl, inr}, specs.List.list_all}
use Rattle.sexp_canonical.specs.Tree.{Tree, leaf, list_of}
use Rattle.sexp_keys.specs.{Names.{algorithm_name, form_name}, Parameters.{is_list, are_public, are_private}, Key.{Key, IsKey}, Faults.{named_fault, IsFirstKeyFault, ReadsKey}, Named.{HasNames, AreParts}}
use Rattle.sexp_keys.{specs.declared.{algorithm.Algorithm.Algorithm, fault.KeyFault.{KeyFault, TheVariants.{BadSecKey, NoMemory}}}, proofs.{OneName.{same_names, named_fault_names}, Parts.counted_parts}}

key_names : (t : Tree) (k : Key) → IsKey t k → HasNames t k.is_clear k.algorithm (k.public ++ k.private) k.further
key_names t k h = record { parts = h.parts }

key_parts : (t : Tree) (k : Key) → IsKey t k → AreParts k.is_clear k.algorithm (k.public ++ k.private) k.public k.private
key_parts t k h = record { joined = refl; are_public = h.formed.public; are_private = h.formed.private }

pub key_read : (t : Tree) (c : Bool) (a : Algorithm) (ps fs public private us vs ws : List Tree) → HasNames t c a ps fs → AreParts c a ps public private → list_all is_list fs ≡ true
    → us ≡ public → vs ≡ private → ws ≡ fs → IsKey t (record { algorithm = a; is_clear = c; public = us; private = vs; further = ws })
key_read t c a ps fs public private us vs ws names parts lists e f g = record {
  parts = names.parts ∙ ap (λ (qs : List Tree). list_of (leaf (form_name c) ∷ list_of (leaf (algorithm_name a) ∷ qs) ∷ fs)) (parts.joined ∙ ap₂ ◌++◌ (sym e) (sym f))
      ∙ ap (λ (gs : List Tree). list_of (leaf (form_name c) ∷ list_of (leaf (algorithm_name a) ∷ us ++ vs) ∷ gs)) (sym g);
  formed = record {
    public = ap (are_public a) e ∙ parts.are_public;
    private = ap (are_private c a) f ∙ parts.are_private;
    further = ap (list_all is_list) g ∙ lists;
  };
}

bad_key : (t : Tree) (c : Bool) (a : Algorithm) (ps fs : List Tree) → HasNames t c a ps fs → ((k : Key) → IsKey t k → ⊥) → IsFirstKeyFault t BadSecKey
bad_key t c a ps fs names none = inr (named_fault_names t c a ps fs names, none, refl)

-- the parameters are no key's
pub bad_parameters : (t : Tree) (c : Bool) (a : Algorithm) (ps fs : List Tree) → HasNames t c a ps fs → ((public private : List Tree) → AreParts c a ps public private → ⊥) → IsFirstKeyFault t BadSecKey
bad_parameters t c a ps fs names none = bad_key t c a ps fs names (λ k h.
    let same = same_names t c k.is_clear a k.algorithm ps (k.public ++ k.private) fs k.further names (key_names t k h) in
    none k.public k.private (record {
      joined = same.parameters;
      are_public = ap (λ (b : Algorithm). are_public b k.public) same.algorithm ∙ h.formed.public;
      are_private = ap (λ (d : Bool). are_private d a k.private) same.form ∙ ap (λ (b : Algorithm). are_private k.is_clear b k.private) same.algorithm ∙ h.formed.private;
    }))

-- an item that follows is no list
pub bad_further : (t : Tree) (c : Bool) (a : Algorithm) (ps fs : List Tree) → HasNames t c a ps fs → list_all is_list fs ≡ false → IsFirstKeyFault t BadSecKey
bad_further t c a ps fs names other = bad_key t c a ps fs names (λ k h.
    let same = same_names t c k.is_clear a k.algorithm ps (k.public ++ k.private) fs k.further names (key_names t k h) in
    let lists : list_all is_list fs ≡ true = ap (list_all is_list) same.further ∙ h.formed.further in
    cc)

-- ---- one answer

one_key : (t : Tree) (k l : Key) → IsKey t k → IsKey t l → k ≡ l
one_key t k l h g =
    let same = same_names t k.is_clear l.is_clear k.algorithm l.algorithm (k.public ++ k.private) (l.public ++ l.private) k.further l.further (key_names t k h) (key_names t l g) in
    let mine = counted_parts k.is_clear k.algorithm (k.public ++ k.private) k.public k.private (key_parts t k h) in
    let other : AreParts k.is_clear k.algorithm (k.public ++ k.private) l.public l.private = record {
      joined = same.parameters;
      are_public = ap (λ (b : Algorithm). are_public b l.public) same.algorithm ∙ g.formed.public;
      are_private = ap (λ (d : Bool). are_private d k.algorithm l.private) same.form ∙ ap (λ (b : Algorithm). are_private l.is_clear b l.private) same.algorithm ∙ g.formed.private;
    } in
    let others = counted_parts k.is_clear k.algorithm (k.public ++ k.private) l.public l.private other in
    let front : k.public ≡ l.public = sym mine.front ∙ others.front in
    let back : k.private ≡ l.private = sym mine.back ∙ others.back in
    λ i. record { algorithm = same.algorithm i; is_clear = same.form i; public = front i; private = back i; further = same.further i }

no_named_fault : (t : Tree) (k : Key) → IsKey t k → named_fault t ≡ None
no_named_fault t k h = named_fault_names t k.is_clear k.algorithm (k.public ++ k.private) k.further (key_names t k h)

no_fault : (t : Tree) (k : Key) (fault : KeyFault) → IsKey t k → IsFirstKeyFault t fault → ⊥
no_fault t k fault h (inl e) = let none = no_named_fault t k h in cc
no_fault t k fault h (inr e) = e.1 k h

one_fault : (t : Tree) (f g : KeyFault) → IsFirstKeyFault t f → IsFirstKeyFault t g → f ≡ g
one_fault t f g (inl d) (inl e) = let same : Some f ≡ Some g = sym d ∙ e in cc
one_fault t f g (inl d) (inr e) = absurd (let none = e.0 in cc)
one_fault t f g (inr d) (inl e) = absurd (let none = d.0 in cc)
one_fault t f g (inr d) (inr e) = d.2 ∙ sym e.2

pub one_answer : (t : Tree) (a b : Result Key KeyFault) → ReadsKey t a → ReadsKey t b → a ≡ b
one_answer t (Ok k) (Ok l) h g = ap Ok (one_key t k l h g)
one_answer t (Ok k) (Err f) h g = absurd (no_fault t k f h g)
one_answer t (Err f) (Ok k) h g = absurd (no_fault t k f g h)
one_answer t (Err f) (Err g) h k = ap Err (one_fault t f g h k)

-- what is found or answered as a fault is the answer
pub only : (t : Tree) (result : Result Key KeyFault) → IfOk result (IsKey t) → IfErr result (λ fault. (fault ≡ NoMemory) ⊎ IsFirstKeyFault t fault)
    → (answer : Result Key KeyFault) → ReadsKey t answer → (result ≡ Err NoMemory) ⊎ (result ≡ answer)
only t (Ok k) found faulted answer h = inr (one_answer t (Ok k) answer found h)
only t (Err f) found (inl e) answer h = inl (ap Err e)
only t (Err f) found (inr e) answer h = inr (one_answer t (Err f) answer e h)
