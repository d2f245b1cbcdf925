-- Every step, by its kind and its turn.
use Rattle.std.specs.Prelude.{ℕ, Some}
use Rattle.{agent_ports.specs.declared.session.SessionId.SessionId, cache_policy.specs.{declared.mark.{Way.TheVariants.{Quiet, Prompt}, MarkStep.MarkStep}, Histories.History, Turns.{Turn, Given, Empty, Done, Held as WhetherHeld}}}
use Rattle.agent_core.specs.{declared.state.State.State, States.seen, Taking.Takes, Cores.IsStep}
use Rattle.agent_core.proofs.Stepping.{IsTaken, given_step, empty_step, prompts_step, put_step, close_step, clear_step, flush_step, stop_step, peek_step, wish_of_ask, wish_of_seat}
use Rattle.cache_policy.specs.declared.mark.MarkStep.TheVariants as asked

module _ (before after : State) (history : History) (session : SessionId) (moment : ℕ) (is : IsTaken before after history moment) where
  pub takes_step : (step_of : MarkStep) (turn : Turn) → Takes before moment session step_of turn after → IsStep (seen before) history session moment step_of turn (seen after)
  takes_step (asked.Ask id mode way since) (Given grant) does = given_step before after history session moment id mode way since grant is does.0 does.1
  takes_step (asked.Ask id mode Quiet since) Empty does = empty_step before after history session moment id mode since is does.0 does.1
  takes_step (asked.Ask id mode Quiet since) _ does = absurd does
  takes_step (asked.Ask id mode Prompt since) turn does =
      prompts_step before after history session moment (asked.Ask id mode Prompt since) since (Some (record { id = id; mode = mode })) turn is
      (wish_of_ask before after history moment id mode since is does.0) does.1
  takes_step (asked.Seat under since) turn does =
      prompts_step before after history session moment (asked.Seat under since) since under turn is (wish_of_seat before after history moment since under is) does
  takes_step (asked.Close ticket keep) Done does = close_step before after history session moment ticket keep is does
  takes_step (asked.Close ticket keep) _ does = absurd does
  takes_step (asked.Put id mode life secret) turn does = put_step before after history session moment id mode life secret turn is does
  takes_step (asked.Clear id mode) Done does = clear_step before after history session moment id mode is does
  takes_step (asked.Clear id mode) _ does = absurd does
  takes_step asked.Flush Done does = flush_step before after history session moment is does
  takes_step asked.Flush _ does = absurd does
  takes_step (asked.Peek id mode) (WhetherHeld there) does =
      peek_step before after history session moment id mode there does.0.0 is does.0.1 does.0.2 does.1
  takes_step (asked.Peek id mode) _ does = absurd does
  takes_step asked.Stop Done does = stop_step before after history session moment is does
  takes_step asked.Stop _ does = absurd does
