-- How a request ends, once its work is done: what its last action does, and the course that this makes of its exchange. So a client that is gone ends it.
use Rattle.std.{specs.{List.AllByRecursion, Option.option_map, Prelude.⊤}, proofs.Common.{◌≡◌, ℕ, List, [], ◌∷◌, ◌++◌, Option, Some, None, Result, Ok, Err, refl, sym, ap, ◌∙◌, subst, append_assoc, append-nil, inl, inr, ◌⊎◌}}
use Rattle.agent_ask.specs.{Session.{PortCalls.{Prompt, Keys, NoMemory, Replaced, Removed}, Actions.{◌>>=◌, Returns, Refuses}, SessionEvents.{Received, Sent, Cut, Inquiry, CacheTurn, Port, cache_turn, said_last}}, Interrupts.Interrupts}
use Rattle.{agent_ask.{specs.Session.TurnActions.Closes, proofs.Within.{Within, Joins, weaker, bind, returned_so, refused_so, Yields, yields_then}}, agent_ports.specs.declared.grip.Grip.Grip, assuan_server.specs.Written.{failed, refusal_line}}
use Rattle.{cache_policy.specs.{Turns.{Turn, Done}, declared.{mark.MarkStep.TheVariants.{Close, Clear}, mode.Mode.TheVariants.Normal}}, session_client.specs.{Refusals.refusal_code, declared.{code.Code.Code, refusal.Refusal.Refusal}}}
use Rattle.{session_client.specs.declared.{refusal.Refusal.TheVariants.{Agent, Pinentry, Client}, client_error.{Gone.Gone, ClientError.ClientError}}, agent_commands.specs.declared.request.Request.Request, key_commands.specs.Events.Event}
use Rattle.key_commands.{specs.{Lines.grip_text, Actions.Action, Passphrases.put_key}, proofs.EachEvent.{each_append, each_answer}}
use Rattle.agent_session.specs.{Causes.{here, later, IsSaid, said as says_so}, Completeness.{EndsInOk, error, done}}
use Rattle.agent_session.{specs.Refusals.{refuses, shuts, IsAllowed, IsWork, AreWork, IsLast, said, gone, GivesBack, no_ticket, with_ticket, settled, interrupted, IsEnd, CourseBy}, proofs.Causes.Explained.has_split}
use Rattle.agent_session.proofs.{Causes.Replying.{IsReply, begins}, Standing.each_has, Courses.Works.{unsaid, unheard_by, lost_goes, GoesOn, WorkEnd, no_more, refused, lost, forgot, WorksTo, ok_works, err_works, WorkLaw, WorksSo}}
use Rattle.agent_ask.specs.Session.TurnActions as taken
use Rattle.agent_ports.specs.declared.keys.KeyDone.TheVariants as key_done
use Rattle.assuan_server.specs.declared.errors.Origin.TheVariants as origin
use Rattle.session_client.specs.declared.code.Code.TheVariants as code
use Rattle.session_client.specs.declared.client_error.ClientError.TheVariants as client_error
use Rattle.agent_session.specs.Refusals as course

-- ---- answers

-- what a refusal is answered by
coded_last : (code : Option Code) → IsLast (said_last (option_map failed code))
coded_last None = gone
coded_last (Some why) = said (error why origin.Agent refl)

refusal_last : (why : Refusal) → IsLast (said_last (refusal_line why))
refusal_last (Agent why) = said (error why origin.Agent refl)
refusal_last (Pinentry why) = said (error why origin.Pinentry refl)
refusal_last (Client why) = coded_last (refusal_code why)

held_back : {held : Option ℕ} {back : List Event} (last : List Event) → Closes None held back (Ok tt) None → GivesBack last (back ++ last)
held_back last taken.unheld = no_ticket
held_back last (taken.closed turn can) = with_ticket turn

-- ---- what the client said

abbrev pub IsHeard : Event → Type 0
IsHeard event = unheard_by event ≡ None

-- none is among such events
pub heard_so : {why : ClientError} (events : List Event) → AllByRecursion IsHeard events → IsSaid events why → ⊥
heard_so events each (says_so says has) = let goes : unsaid _ ≡ None = each_has IsHeard events each has in let gone_so = ap unsaid says in cc (goes, gone_so)

pub said_split : {why : ClientError} (first more : List Event) → IsSaid (first ++ more) why → IsSaid first why ⊎ IsSaid more why
said_split first more (says_so says has) = elim (has_split first more has) [ inl before ↦ inl (says_so says before) | inr behind ↦ inr (says_so says behind) ]

-- it is none in what stands behind these
pub said_before : {why : ClientError} (events more : List Event) → AllByRecursion IsHeard more → IsSaid (events ++ more) why → IsSaid events why
said_before events more each says = elim (said_split events more says) [ inl before ↦ before | inr behind ↦ absurd (heard_so more each behind) ]

pub answer_heard : {held : Option ℕ} {back : List Event} (line : Option (List ℕ)) → Closes None held back (Ok tt) None → AllByRecursion IsHeard (back ++ said_last line)
answer_heard = each_answer IsHeard (λ number turn. refl) (λ text. refl)

-- it is by the last event of an action's work, and by none before it
shut_heard : (event : Event) → AllByRecursion IsHeard (shuts event)
shut_heard (Port (Prompt event)) = (refl, tt)
shut_heard _ = tt

refused_heard : (event : Event) {why : Code} → refuses event ≡ Some why → IsHeard event
refused_heard (Cut text) is = absurd (cc is)
refused_heard (Inquiry word params limit inquired) is = absurd (cc is)
refused_heard (Received took) is = refl
refused_heard (Sent text) is = refl
refused_heard (CacheTurn taken) is = refl
refused_heard (Port what) is = refl

-- what an action comes to, whose client said so: that, unless it was too much, and there was no memory for it
abbrev pub ComesTo : {A : Type 0} → ClientError → Result A Refusal → Type 0
ComesTo why result = (result ≡ Err (Client why)) ⊎ ((why ≡ client_error.TooMuch) × (result ≡ Err (Agent code.NoMemory)))

pub gone_only : {A : Type 0} {how : Gone} {result : Result A Refusal} → ComesTo (client_error.Gone how) result → result ≡ Err (Client (client_error.Gone how))
gone_only (inl is) = is
gone_only (inr forgot_so) = absurd (cc (forgot_so.0))

module _ (Fits : Event → Type 0) where
  all_heard : (events : List Event) → AllByRecursion (GoesOn Fits) events → AllByRecursion IsHeard events
  all_heard [] each = tt
  all_heard (event ∷ more) each = (each.0.2, all_heard more each.1)

  work_said : {A : Type 0} {last : List Event} {result : Result A Refusal} {why : ClientError} → WorkEnd Fits last result → IsSaid last why → ComesTo why result
  work_said no_more says = absurd (heard_so [] tt says)
  work_said (refused {event} fits is) says = absurd (heard_so (event ∷ shuts event) (refused_heard event is, shut_heard event) says)
  work_said {why} (lost {why = other} fits is each) (says_so says here) = let both : Some why ≡ Some other = sym (ap unsaid says) ∙ is in inl (ap (λ w. Err (Client w)) (sym (cc both)))
  work_said (lost {last = more} fits is each) (says_so says (later has)) = absurd (heard_so more (all_heard more each) (says_so says has))
  work_said {why} (forgot fits is memory) (says_so says here) = let both : Some why ≡ Some client_error.TooMuch = sym (ap unsaid says) ∙ is in inr (cc both, refl)
  work_said (forgot fits is memory) (says_so says (later (later has))) = elim has [ ]

  said_behind : {why : ClientError} (work last : List Event) → AllByRecursion (GoesOn Fits) work → IsSaid (work ++ last) why → IsSaid last why
  said_behind work last each says = elim (said_split work last says) [ inl first ↦ absurd (heard_so work (all_heard work each) first) | inr behind_it ↦ behind_it ]

  pub works_said : {A : Type 0} {events : List Event} {result : Result A Refusal} {why : ClientError} → WorksTo Fits events result → IsSaid events why → ComesTo why result
  works_said {why} does says = work_said does.end (said_behind does.work does.last does.each (subst (λ e. IsSaid e why) does.is says))

-- whatever nonce
abbrev pub AnyNonce : List ℕ → Type 0
AnyNonce id = ⊤

module _ (request : Request) where
  abbrev Fine : Event → Type 0
  Fine = GoesOn (IsAllowed request AnyNonce)

  are_work : (events : List Event) → AllByRecursion Fine events → AreWork request AnyNonce events
  are_work [] each = tt
  are_work (event ∷ more) each = ((each.0.0, each.0.1), are_work more each.1)

  -- ---- what a request ends with

  pub data RequestEnd {A : Type 0} : List Event → Result A Refusal → Option ℕ → Type 0 where
    working : {last : List Event} {result : Result A Refusal} {held : Option ℕ} → WorkEnd (IsAllowed request AnyNonce) last result → RequestEnd last result held
    closed : {ticket : ℕ} {keep : Option (List ℕ)} {value : A} (turn : Turn) → RequestEnd (cache_turn (Close ticket keep) turn ∷ []) (Ok value) None
    unwrapped : {ticket : ℕ} {keep : Option (List ℕ)} (turn : Turn) → RequestEnd (cache_turn (Close ticket keep) turn ∷ Port NoMemory ∷ []) (Err (Agent code.NoMemory)) None
    kept : {grip : Grip} {file : List ℕ} {ticket : ℕ} {pass : List ℕ} {value : A} (turn : Turn)
        → RequestEnd (Port (Keys (Replaced grip file key_done.Done)) ∷ cache_turn (Close ticket (Some pass)) turn ∷ []) (Ok value) None
    put : {grip : Grip} {file pass : List ℕ} {value : A} → RequestEnd (Port (Keys (Replaced grip file key_done.Done)) ∷ cache_turn (put_key grip pass) Done ∷ []) (Ok value) None
    unput : {grip : Grip} {file pass : List ℕ} {turn : Turn} {why : Code} → Interrupts turn why
        → RequestEnd (Port (Keys (Replaced grip file key_done.Done)) ∷ cache_turn (put_key grip pass) turn ∷ []) (Err (Agent why)) None
    cleared : {grip : Grip} {value : A} {held : Option ℕ} → RequestEnd (Port (Keys (Removed grip key_done.Done)) ∷ cache_turn (Clear (grip_text grip) Normal) Done ∷ []) (Ok value) held
    uncleared : {grip : Grip} {turn : Turn} {why : Code} {held : Option ℕ} → Interrupts turn why
        → RequestEnd (Port (Keys (Removed grip key_done.Done)) ∷ cache_turn (Clear (grip_text grip) Normal) turn ∷ []) (Err (Agent why)) held

  pub record Ends {A : Type 0} (events : List Event) (result : Result A Refusal) (held : Option ℕ) : Type 0 where
    pub work : List Event
    pub last : List Event
    pub is : events ≡ work ++ last
    pub each : AllByRecursion Fine work
    pub end : RequestEnd last result held

  pub working_ends : {A : Type 0} {events : List Event} {result : Result A Refusal} {held : Option ℕ} → WorksTo (IsAllowed request AnyNonce) events result → Ends events result held
  working_ends does = record { work = does.work; last = does.last; is = does.is; each = does.each; end = working does.end }

  -- nothing is left of the work
  pub ends_with : {A : Type 0} {events : List Event} {result : Result A Refusal} {held : Option ℕ} → RequestEnd events result held → Ends events result held
  ends_with {events} end = record { work = []; last = events; is = refl; each = tt; end = end }

  -- ---- actions

  abbrev pub EndsLaw : {A : Type 0} → Action A
  EndsLaw before events result after = Ends events result after

  abbrev pub EndsSo : {A : Type 0} → Action A → Type 0
  EndsSo action = Within action EndsLaw

  pub ends_working : {A : Type 0} {action : Action A} → WorksSo (IsAllowed request AnyNonce) action → EndsSo action
  ends_working = weaker (record { of = λ before events result after does. working_ends does })

  behind : {A : Type 0} {events : List Event} {result : Result A Refusal} {held : Option ℕ} (first : List Event) → AllByRecursion Fine first → Ends events result held → Ends (first ++ events) result held
  behind first each ends = record {
    work = first ++ ends.work;
    last = ends.last;
    is = ap (λ e. first ++ e) ends.is ∙ sym (append_assoc first ends.work ends.last);
    each = each_append Fine first ends.work each ends.each;
    end = ends.end;
  }

  -- work, and then what ends the request
  work_joins : {A B : Type 0} → Joins {A = A} {B = B} (WorkLaw (IsAllowed request AnyNonce)) (λ value. EndsLaw) EndsLaw
  work_joins = record {
    then = λ some later work ends. behind some (ok_works (IsAllowed request AnyNonce) work) ends;
    alone = λ work. working_ends (err_works (IsAllowed request AnyNonce) work);
  }

  pub bind_ends : {A B : Type 0} {action : Action A} {next : A → Action B} → WorksSo (IsAllowed request AnyNonce) action → ((value : A) → EndsSo (next value)) → EndsSo (action >>= next)
  bind_ends = bind work_joins

  -- a value is made of what a request ends with
  ok_end : {A B : Type 0} {last : List Event} {value : A} {held : Option ℕ} (other : B) → RequestEnd last (Ok value) held → RequestEnd last (Ok other) held
  ok_end other (working no_more) = working no_more
  ok_end other (closed turn) = closed turn
  ok_end other (kept turn) = kept turn
  ok_end other put = put
  ok_end other cleared = cleared

  err_end : {A B : Type 0} {last : List Event} {why : Refusal} {held : Option ℕ} → RequestEnd {A = A} last (Err why) held → RequestEnd {A = B} last (Err why) held
  err_end (working no_more) = working no_more
  err_end (working (refused allowed is)) = working (refused allowed is)
  err_end (working (lost allowed is each)) = working (lost allowed is each)
  err_end (working (forgot allowed is memory)) = working (forgot allowed is memory)
  err_end (unwrapped turn) = unwrapped turn
  err_end (unput why) = unput why
  err_end (uncleared why) = uncleared why

  -- by an action that does nothing but to make one
  abbrev pub MakesLaw : {A : Type 0} → Action A
  MakesLaw {A} before events result after = (value : A) × (result ≡ Ok value) × (events ≡ []) × (after ≡ before)

  abbrev pub Makes : {A : Type 0} → Action A → Type 0
  Makes action = Within action MakesLaw

  pub makes : {A : Type 0} (value : A) → Makes (Returns value)
  makes value = returned_so value (λ held. (value, refl, refl, refl))

  made_with : {A B : Type 0} (some more : List Event) (mid after : Option ℕ) (value : A) (other : B) (result : Result B Refusal) → Ends some (Ok value) mid → result ≡ Ok other → more ≡ [] → after ≡ mid
      → Ends (some ++ more) result after
  made_with some more mid after value other result ends came none same =
      subst (λ r. Ends (some ++ more) r after) (sym came) (subst (λ m. Ends (some ++ m) (Ok other) after) (sym none) (subst (λ h. Ends (some ++ []) (Ok other) h) (sym same)
      (record { work = ends.work; last = ends.last; is = append-nil some ∙ ends.is; each = ends.each; end = ok_end other ends.end })))

  made_joins : {A B : Type 0} → Joins {A = A} {B = B} EndsLaw (λ value. MakesLaw) EndsLaw
  made_joins = record {
    then = λ {before} {mid} {after} some later {value} {result} ends so. made_with some later mid after value so.0 result ends so.1 so.2 so.3;
    alone = λ ends. record { work = ends.work; last = ends.last; is = ends.is; each = ends.each; end = err_end ends.end };
  }

  pub made : {A B : Type 0} {action : Action A} {next : A → Action B} → EndsSo action → ((value : A) → Makes (next value)) → EndsSo (action >>= next)
  made = bind made_joins

  -- ---- courses

  course_at : (work last more : List Event) → AllByRecursion Fine work → IsEnd request AnyNonce (last ++ more) → CourseBy request AnyNonce ((work ++ last) ++ more)
  course_at work last more each end = record { work = work; last = last ++ more; is = append_assoc work last more; each = are_work work each; end = end }

  last_end : {held : Option ℕ} {back last : List Event} → IsLast last → Closes None held back (Ok tt) None → IsEnd request AnyNonce (back ++ last)
  last_end is_last taken.unheld = course.answered is_last
  last_end is_last (taken.closed turn can) = course.given_back turn is_last

  ok_course_at : {A : Type 0} (work last back : List Event) {held : Option ℕ} {value : A} {text : List ℕ} → AllByRecursion Fine work → EndsInOk text → RequestEnd last (Ok value) held
      → Closes None held back (Ok tt) None → CourseBy request AnyNonce ((work ++ last) ++ (back ++ Sent text ∷ []))
  ok_course_at _ _ _ each good (working no_more) closes_so = course_at _ _ _ each (last_end (said (done good)) closes_so)
  ok_course_at _ _ _ each good (closed turn) taken.unheld = course_at _ _ _ each (course.given_back turn (said (done good)))
  ok_course_at _ _ _ each good (kept turn) taken.unheld = course_at _ _ _ each (course.kept turn good)
  ok_course_at _ _ _ each good put taken.unheld = course_at _ _ _ each (course.stored (settled good))
  ok_course_at _ _ _ each good cleared closes_so = course_at _ _ _ each (course.cleared (settled good) (held_back _ closes_so))

  err_course_at : {A : Type 0} (work last back : List Event) {held : Option ℕ} {why : Refusal} → AllByRecursion Fine work → RequestEnd {A = A} last (Err why) held → Closes None held back (Ok tt) None
      → CourseBy request AnyNonce ((work ++ last) ++ (back ++ said_last (refusal_line why)))
  err_course_at _ _ _ each (working no_more) closes_so = course_at _ _ _ each (last_end (refusal_last _) closes_so)
  err_course_at _ _ _ each (working (refused allowed is)) closes_so = course_at _ _ _ each (course.refused allowed is (held_back _ closes_so))
  err_course_at work _ back each (working (lost {event} {last} {why} allowed is each_last)) closes_so = record {
    work = work ++ event ∷ last;
    last = _;
    is = refl;
    each = each_append (IsWork request AnyNonce) work (event ∷ last) (are_work work each) ((allowed, lost_goes event is), are_work last each_last);
    end = last_end (refusal_last (Client why)) closes_so;
  }
  err_course_at work _ back each (working (forgot {event} allowed is memory)) closes_so = record {
    work = work ++ event ∷ [];
    last = _;
    is = append_assoc work (event ∷ Port NoMemory ∷ []) (back ++ said_last (refusal_line (Agent code.NoMemory))) ∙ sym (append_assoc work (event ∷ []) (Port NoMemory ∷ (back ++ said_last (refusal_line (Agent code.NoMemory)))));
    each = each_append (IsWork request AnyNonce) work (event ∷ []) (are_work work each) ((allowed, lost_goes event is), tt);
    end = course.refused {event = Port NoMemory} memory refl (held_back _ closes_so);
  }
  err_course_at _ _ _ each (unwrapped turn) taken.unheld = course_at _ _ _ each (course.unanswered turn)
  err_course_at _ _ _ each (unput why) taken.unheld = course_at _ _ _ each (course.stored (interrupted why))
  err_course_at _ _ _ each (uncleared why) closes_so = course_at _ _ _ each (course.cleared (interrupted why) (held_back _ closes_so))

  module _ {A : Type 0} {events back : List Event} {held : Option ℕ} where
    pub ok_course : {value : A} {text : List ℕ} → EndsInOk text → Ends events (Ok value) held → Closes None held back (Ok tt) None → CourseBy request AnyNonce (events ++ (back ++ Sent text ∷ []))
    ok_course {text} good ends closes_so = subst (λ e. CourseBy request AnyNonce (e ++ (back ++ Sent text ∷ []))) (sym ends.is) (ok_course_at ends.work ends.last back ends.each good ends.end closes_so)

    pub err_course : {why : Refusal} → Ends {A = A} events (Err why) held → Closes None held back (Ok tt) None → CourseBy request AnyNonce (events ++ (back ++ said_last (refusal_line why)))
    err_course {why} ends closes_so = subst (λ e. CourseBy request AnyNonce (e ++ (back ++ said_last (refusal_line why)))) (sym ends.is) (err_course_at ends.work ends.last back ends.each ends.end closes_so)

  -- ---- what its client said ends a request

  end_said : {A : Type 0} {last : List Event} {result : Result A Refusal} {held : Option ℕ} {why : ClientError} → RequestEnd last result held → IsSaid last why → ComesTo why result
  end_said (working end) says = work_said (IsAllowed request AnyNonce) end says
  end_said (closed turn) says = absurd (heard_so _ (refl, tt) says)
  end_said _ says = absurd (heard_so _ (refl, (refl, tt)) says)

  pub ends_said : {A : Type 0} {events : List Event} {result : Result A Refusal} {held : Option ℕ} {why : ClientError} → Ends events result held → IsSaid events why
      → ComesTo why result
  ends_said {why} ends says = end_said ends.end (said_behind (IsAllowed request AnyNonce) ends.work ends.last ends.each (subst (λ e. IsSaid e why) ends.is says))

-- ---- every reply ends in an OK line

pub reply_ends_in_ok : {text : List ℕ} → IsReply text → EndsInOk text
reply_ends_in_ok (begins other ends) = ends

module _ {R : Type 0} (text_of : R → List ℕ) where
  abbrev pub IsOk : R → Type 0
  IsOk reply = EndsInOk (text_of reply)

  abbrev pub RepliesOk : Action R → Type 0
  RepliesOk action = Within action (Yields IsOk)

module _ {R : Type 0} {text_of : R → List ℕ} where
  pub ok_returns : (value : R) → EndsInOk (text_of value) → RepliesOk text_of (Returns value)
  ok_returns value ok = returned_so value (λ held. ok)

  pub ok_refuses : (why : Refusal) → RepliesOk text_of (Refuses why)
  ok_refuses why = refused_so why (λ held. tt)

  pub ok_then : {A : Type 0} {action : Action A} {next : A → Action R} → ((value : A) → RepliesOk text_of (next value)) → RepliesOk text_of (action >>= next)
  ok_then = yields_then (IsOk text_of)
