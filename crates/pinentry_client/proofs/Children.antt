-- Prompts, one after another, have their children.
use Rattle.std.proofs.Common.{◌≡◌, ℕ, List, [], ◌∷◌, ◌++◌, refl, sym, ap, subst, ◌∙◌}
use Rattle.{agent_ask.specs.Events.Call, agent_ports.specs.{Launches.{Launches, child_then}, Leads.{Leads, none, one}}}
use Rattle.pinentry_client.{specs.{Children.{ArePrompts, next, Child, HaveChildren, unlaunched, launched_with, finished_with, HaveTheirChildren}, Dialogues.PinentryDoes, States.AtPinentry, Whole.HasItsChild}, proofs.WholeLemmas.its_child}
use Rattle.pinentry_client.specs.Children as children
use Rattle.pinentry_client.specs.Dialogues as does

-- some events, and those behind them
record Parts {S E : Type 0} (Does : S → E → S → Type 0) (start : S) (first second : List E) (now : S) : Type 0 where
  mid : S
  leads : Leads Does start first mid
  later : Leads Does mid second now

parted : {S E : Type 0} {Does : S → E → S → Type 0} {start now : S} (first : List E) {second : List E} → Leads Does start (first ++ second) now → Parts Does start first second now
parted [] leads = record { mid = _; leads = none; later = leads }
parted (event ∷ first) (one step leads) = let rest = parted first leads in record { mid = rest.mid; leads = one step rest.leads; later = rest.later }

-- a pinentry keeps its program
call_keeps : {before after : AtPinentry} {call : Call} → PinentryDoes before call after → after.program ≡ before.program
call_keeps (does.unlaunched has) = refl
call_keeps (does.started end has talk) = refl
call_keeps (does.pin_asked talk) = refl
call_keeps (does.consent_asked talk) = refl
call_keeps (does.shut says has) = refl
call_keeps does.shut_alone = refl

calls_keep : {before after : AtPinentry} {calls : List Call} → Leads PinentryDoes before calls after → after.program ≡ before.program
calls_keep none = refl
calls_keep (one step leads) = calls_keep leads ∙ call_keeps step

-- one prompt more, in front
one_more : {program : List ℕ} {prompt : List Call} {prompts : List (List Call)} {before mid after : Launches} → HasItsChild program prompt before mid → HaveTheirChildren program prompts mid after
    → HaveTheirChildren program (prompt ∷ prompts) before after
one_more {program} {prompts} (HasItsChild.none is rose coming launched finished) rest = record {
  children = rest.children;
  have = subst (λ (p : List Call). HaveChildren (p ∷ prompts) rest.children) (sym is) (unlaunched rest.have);
  coming = sym coming ∙ rest.coming;
  launched = rest.launched ∙ ap (λ (l : _). launched_with program l rest.children) launched;
  finished = rest.finished ∙ ap (λ (f : _). finished_with f rest.children) finished;
}
one_more {program} {after} (HasItsChild.one given left written talk coming launched finished) rest =
    let child : Child = record { given = given; left = left; written = written } in
    record {
      children = child ∷ rest.children;
      have = children.one child talk rest.have;
      coming = coming ∙ ap (λ (c : _). child_then given c) rest.coming;
      launched = rest.launched ∙ ap (λ (l : _). launched_with program l rest.children) launched;
      finished = rest.finished ∙ ap (λ (f : _). finished_with f rest.children) finished;
    }

pub their_children : (before after : AtPinentry) {prompts : List (List Call)} {calls : List Call} → ArePrompts prompts calls → Leads PinentryDoes before calls after
    → HaveTheirChildren before.program prompts before.launches after.launches
their_children before after ArePrompts.none none = record { children = []; have = children.HaveChildren.none; coming = refl; launched = refl; finished = refl }
their_children before after (next {prompt} {calls} {prompts} is later) leads =
    let parts = parted prompt leads in
    one_more (its_child is parts.leads)
    (subst (λ (p : List ℕ). HaveTheirChildren p prompts parts.mid.launches after.launches) (calls_keep parts.leads) (their_children parts.mid after later parts.later))
