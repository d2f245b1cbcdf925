-- What a session's client is heard to say of a prompt, and how that leaves its connection.
use Rattle.std.proofs.Common.{◌≡◌, ◌≢◌, ℕ, List, None, Some, Result, Ok, Err, refl, sym, ap, ◌∙◌, subst}
use Rattle.session_client.specs.{Asking.{LeftBy, LeftByError, TellsClient}, Lines.{Lines, Views, IsOpen}, declared.client_error.ClientError.ClientError}
use Rattle.agent_ask.specs.{Callers.{unheard_of, heard_of, heard_by, wish_by, IsHearing}, Clients.{Hears, note, wish}, Events.{Question, Launched, Wanted}, declared.client.caller.Heard.TheVariants.Fine}
use Rattle.session_client.specs.declared.client_error.ClientError.TheVariants as client_error

-- a client error is told by its answer
pub unheard_is : (why : ClientError) → unheard_of (heard_of why) ≡ Some why
unheard_is client_error.Cancelled = refl
unheard_is client_error.TooMuch = refl
unheard_is client_error.Unexpected = refl
unheard_is (client_error.Gone how) = refl

pub not_fine : (why : ClientError) → heard_of why ≢ Fine
not_fine why is = let none : Some why ≡ None = sym (unheard_is why) ∙ ap unheard_of is in cc none

module _ {lines : Lines} {C : Type 0} (views : Views lines C) (start now : C) where
  err_hearing : (question : Question) (why : ClientError) → LeftByError views why start now → IsHearing question (heard_of why) (IsOpen views now)
  err_hearing (Launched pid) client_error.Cancelled left = record { fits = tt; listens = λ here. left }
  err_hearing (Launched pid) client_error.TooMuch left = record { fits = tt; listens = λ here. left }
  err_hearing (Launched pid) client_error.Unexpected left = record { fits = tt; listens = λ here. left }
  err_hearing (Launched pid) (client_error.Gone how) left = record { fits = tt; listens = λ here. absurd (cc here) }
  err_hearing (Wanted word) client_error.Cancelled left = record { fits = tt; listens = λ here. left }
  err_hearing (Wanted word) client_error.TooMuch left = record { fits = tt; listens = λ here. left }
  err_hearing (Wanted word) client_error.Unexpected left = record { fits = tt; listens = λ here. left }
  err_hearing (Wanted word) (client_error.Gone how) left = record { fits = tt; listens = λ here. absurd (cc here) }

module _ {lines : Lines} {C : Type 0} (views : Views lines C) (Wished : C → List ℕ → Result (List ℕ) ClientError → C → Type 0) where
  -- it was told of a prompt, or asked for a passphrase
  pub told : {pid : ℕ} {before after : C} (result : Result (Unit {0}) ClientError) → IsOpen views before → TellsClient views pid result before after
      → Hears views Wished before (Launched pid) (heard_by result) after
  told (Ok noted) going tells = note (Ok noted) going tells refl (record { fits = tt; listens = λ here. tells.inquires.left })
  told {pid} (Err why) going tells = note (Err why) going tells (unheard_is why) (err_hearing views _ _ (Launched pid) why tells.inquires.left)

  pub wished : {word : List ℕ} {before after : C} (result : Result (List ℕ) ClientError) → IsOpen views before → Wished before word result after → LeftBy views result before after
      → Hears views Wished before (Wanted word) (wish_by result) after
  wished (Ok secret) going wishes left = wish (Ok secret) going wishes refl (record { fits = tt; listens = λ here. left })
  wished {word} (Err why) going wishes left = wish (Err why) going wishes (unheard_is why) (err_hearing views _ _ (Wanted word) why left)

  -- a client that didn't take note of a prompt
  pub left_noted : {before after : C} {pid : ℕ} (why : ClientError) → Hears views Wished before (Launched pid) (heard_of why) after → LeftByError views why before after
  left_noted why (note (Ok noted) going tells says is) = absurd (not_fine why says)
  left_noted {before} {after} why (note (Err other) going tells says is) =
      let same : other ≡ why = cc (sym says ∙ unheard_is why) in
      subst (λ (w : ClientError). LeftByError views w before after) same tells.inquires.left
