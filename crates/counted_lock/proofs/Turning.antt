-- What a place knows once the core is out of the slot.
use Rattle.std.proofs.Common.{◌≡◌, List, [], ◌∷◌, Option, Some, None, sym, ap, ◌∙◌, subst}
use Rattle.{atomic_table.specs.Table.rest, cache_policy.specs.declared.{mark.Mark.Mark, life.Limits.Limits}}
use Rattle.counted_lock.specs.{Logs.{IsLegalLog, marks_by}, declared.board.{Cored.Cored, Claim.Claim, Stage.TheVariants.Working}, Standing.Stands, Rule.doing, Plays.{Hand, saw, number, Takes, Enters}, Claims.{Sat, own}}

abbrev first_in : Hand → Option Cored
first_in [] = None
first_in (x ∷ xs) = x.1

pub in_hand : (m m' : Sat) (t : Takes m m') → m'.1 ≡ (0, Some t.core) ∷ rest m'.1
in_hand m m' t = let h : m'.1 ≡ (0, Some t.core) ∷ [] = ap (λ (z : Sat). z.1) t.works in h ∙ ap (λ (r : Hand). (0, Some t.core) ∷ r) (sym (ap rest h))

pub is_core : (m m' : Sat) (r : Option Cored) (t : Takes m m') → m'.1 ≡ (0, r) ∷ rest m'.1 → r ≡ Some t.core
is_core m m' r t e = ap first_in (sym e ∙ ap (λ (z : Sat). z.1) t.works)

pub enters : (m0 m m' m'' : Sat) (r : Option Cored) (core : Cored) (t : Takes m m') → own m ≡ own m0 → m'.1 ≡ (0, r) ∷ rest m'.1 → m'' ≡ (m'.0, (0, None) ∷ rest m'.1) → r ≡ Some core
    → Enters m0 m'' core
enters m0 m m' m'' r core t same e now is =
    let bare : rest m'.1 ≡ [] = ap rest (ap (λ (z : Sat). z.1) t.works) in
    let this : core ≡ t.core = let a = is_core m m' r t e in cc (a, is) in
    let place : m'' ≡ (doing (Working (number m')) (own m' ∷ []), (0, None) ∷ []) = now ∙ (λ i. (ap (λ (z : Sat). z.0) t.works i, (0, None) ∷ bare i)) in
    let mine : own m'' ≡ own m' = ap own place in
    let turn : number m'' ≡ number m' = ap number place in
    record {
      more = t.more;
      foreign = subst (λ (c : Claim). marks_by c.number t.more ≡ []) same t.foreign;
      seen = mine ∙ (t.seen ∙ ap (λ (c : Claim). saw c t.more) same);
      works = place ∙ (λ i. (doing (Working (sym turn i)) (sym mine i ∷ []), (0, None) ∷ []));
      legal = subst (λ (z : Limits × List Mark). IsLegalLog z.0 z.1) (λ i. (ap (λ (c : Claim). c.limits) same i, ap (λ (c : Claim). c.seen) (sym mine) i)) t.legal;
      limits_is = ap (λ (z : Cored). z.core.limits) this ∙ (t.limits_is ∙ ap (λ (c : Claim). c.limits) same);
      stands = subst (λ (z : Cored × List Mark). Stands z.0 z.1) (λ i. (sym this i, ap (λ (c : Claim). c.seen) (sym mine) i)) t.stands;
    }
