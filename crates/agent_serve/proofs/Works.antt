-- What a worker does, session after session.
use Rattle.std.proofs.Common.{◌≡◌, ◌<◌, ◌≤◌, ◌-◌, ◌^◌, ◌⊎◌, inl, inr, List, [], ◌∷◌, Option, None, Some, refl, sym, subst, ap, arith, ◌∙◌}
use Rattle.{agent_ports.specs.{Counts.Rose, declared.listener.Next.{Next, TheVariants.{Failed, Stopped}}}, counted_lock.specs.Passes.{AtCounted, AtPass, AreOf}, session_options.specs.declared.rules.Rules.Rules}
use Rattle.agent_origin.specs.declared.door.Door.TheVariants.{Outer}
use Rattle.agent_serve.{proofs.Pairs.by_either, specs.{Arrivals.map_next, Pairs.PairedTo, Working.{HostViews, Post, post_at, home_post, last_post, ServesNext, ServesLinks, EndsWork, Works, WorkEach, none, one_more, failed, stopped, numbers_spent}}}

module _ {Ls E Li La C R K T : Type 0} (host : HostViews Ls E Li La C R K T) (rules : Rules) where
  -- the workers stand at these posts
  abbrev pub WorkAt : Post Ls → Post Ls → List AtPass → List E → List AtPass → List E → Type 0
  WorkAt other last = PairedTo (λ pass ear back. Works host rules other pass ear back.0 back.1) (λ pass ear back. Works host rules last pass ear back.0 back.1)

  -- a session leaves the pass at its table
  pub next_stays : {post : Post Ls} {pass : AtPass} {link : Li} {ear : E} {now : AtPass} {then : E} → ServesNext host rules post pass link ear now then → now.table ≡ pass.table
  next_stays next = ap (λ (p : AtPass). p.table) next.serves.now_is

  stays : (post : Post Ls) (first : AtPass) (early : E) (now : AtPass) (later : E) → ServesLinks host rules post first early now later → now.table ≡ first.table
  stays post first early _ _ none = refl
  stays post first early now later (one_more {pass = pass} {ear = ear} before answers next) = next_stays next ∙ stays post first early pass ear before

  work_stays : (post : Post Ls) (pass : AtPass) (ear : E) (now : AtPass) (back : E) → Works host rules post pass ear now back → now.table ≡ pass.table
  work_stays post pass ear now back works = stays post pass ear now works.last works.serves

  -- passes that come back are of their lock
  pub stay_of : (counted : AtCounted) (listener : Ls) (extra : Option Ls) (js fs : List AtPass) (ks bs : List E) → AreOf counted.table js → WorkEach host rules listener extra js ks fs bs → AreOf counted.table fs
  stay_of counted listener extra [] [] [] [] all each = tt
  stay_of counted listener extra (j ∷ js) (f ∷ fs) (k ∷ ks) (b ∷ bs) all each =
      (by_either _ _ js (work_stays (home_post listener extra) j k f b) (work_stays (last_post listener extra) j k f b) each.0 ∙ all.0, stay_of counted listener extra js fs ks bs all.1 each.1)
  stay_of counted listener extra [] [] [] (b ∷ bs) all each = absurd each
  stay_of counted listener extra [] [] (k ∷ ks) bs all each = absurd each
  stay_of counted listener extra [] (f ∷ fs) [] bs all each = absurd each
  stay_of counted listener extra [] (f ∷ fs) (k ∷ ks) bs all each = absurd each
  stay_of counted listener extra (j ∷ js) fs [] bs all each = absurd each
  stay_of counted listener extra (j ∷ js) [] (k ∷ ks) bs all each = absurd each
  stay_of counted listener extra (j ∷ js) (f ∷ fs) (k ∷ ks) [] all each = absurd each

  -- a listener that gives no link ends its worker
  pub ends_without_link : {A : Type 0} (link_of : A → Li) (post : Post Ls) (early last : E) (now : AtPass) (back : E) (answer : Next A) → (answer ≡ Failed) ⊎ (answer ≡ Stopped)
      → host.answers post.listener last (map_next link_of answer) back → (answer ≡ Stopped → host.is_told post.listener) → (answer ≡ Failed → Rose (host.faults last) (host.faults back))
      → host.faults early ≤ host.faults last → EndsWork host rules post early last now back
  ends_without_link link_of post early last now back answer (inl is) answers told rose unfallen =
      failed (subst (λ a. host.answers post.listener last (map_next link_of a) back) is answers) (omega (arith, rose is, unfallen))
  ends_without_link link_of post early last now back answer (inr is) answers told rose unfallen =
      stopped (subst (λ a. host.answers post.listener last (map_next link_of a) back) is answers) (told is)

  -- where nothing failed and there are numbers left, the listener answered that it is stopped, as it was told to be
  pub told_where_nothing_failed : (post : Post Ls) (pass : AtPass) (ear : E) (now : AtPass) (back : E) → Works host rules post pass ear now back → ¬ Rose (host.faults ear) (host.faults back) → now.sessions < 2 ^ 64 - 1
      → (last : E) × host.answers post.listener last Stopped back × host.is_told post.listener
  told_where_nothing_failed post pass ear now back works still numbered = by_cause works.ends refl where
    by_cause : {left : E} → EndsWork host rules post ear works.last now left → left ≡ back → (last : E) × host.answers post.listener last Stopped back × host.is_told post.listener
    by_cause (failed answers rose) is = absurd (still (subst (λ e. Rose (host.faults ear) (host.faults e)) is rose))
    by_cause (stopped answers told) is = (_, subst (host.answers post.listener works.last Stopped) is answers, told)
    by_cause (numbers_spent spent) is = absurd (omega (arith, spent, numbered))

  -- where there is no extra listener all workers stand alike
  pub without_extra : (listener : Ls) (extra : Option Ls) (js : List AtPass) (ks : List E) (fs : List AtPass) (bs : List E) → extra ≡ None
      → WorkAt (home_post listener extra) (home_post listener extra) js ks fs bs → WorkEach host rules listener extra js ks fs bs
  without_extra listener None js ks fs bs is each = each
  without_extra listener (Some given) js ks fs bs is each = absurd (cc is)

  -- where there is one the last worker stands there
  pub with_extra : (listener : Ls) (extra : Option Ls) (given : Ls) (js : List AtPass) (ks : List E) (fs : List AtPass) (bs : List E) → extra ≡ Some given
      → WorkAt (home_post listener extra) (post_at Outer given (Some listener)) js ks fs bs → WorkEach host rules listener extra js ks fs bs
  with_extra listener None given js ks fs bs is each = absurd (cc is)
  with_extra listener (Some extra) given js ks fs bs is each = subst (λ other. WorkAt (home_post listener (Some extra)) (post_at Outer other (Some listener)) js ks fs bs) (sym (same is)) each where
    same : Some extra ≡ Some given → extra ≡ given
    same e = cc e
