-- Tallies: what the marks of a run come to. This is the project's own.
use Rattle.std.specs.{Prelude.{◌≡◌, ◌+◌, ◌<◌, ◌^◌, List, length, Bool, false}, Option.option_map_or, List.flat_map}
use Rattle.cache_policy.specs.{declared.{life.Limits.Limits, mark.Mark.Mark, tally.Tally.Tally}, Histories.History, Entries.entries, Runs.{joined, last_history}, Seat.{is_open, stopped}}
use Rattle.cache_policy.specs.Tallies.{is_given, is_empty, is_clear, is_flush, how_many, one_if}

-- the tally of a run: its marks, those that were replied so, the entries that were stored, those steps, and whether it has stopped
abbrev pub tally_of : Limits → List History → Tally
tally_of limits run = record {
  marks = length (joined run);
  given = how_many (λ mark. is_given mark.reply) (joined run);
  empty = how_many (λ mark. is_empty mark.reply) (joined run);
  opened = how_many (λ mark. is_open mark.reply) (joined run);
  stored = length (flat_map (entries limits) run);
  cleared = how_many (λ mark. is_clear mark.step) (joined run);
  flushed = how_many (λ mark. is_flush mark.step) (joined run);
  stopped = option_map_or stopped (last_history run) false;
}

-- what the code counts

abbrev pub counted : Tally → Mark → Bool → Tally
counted tally mark stores = record {
  marks = tally.marks + 1;
  given = tally.given + one_if (is_given mark.reply);
  empty = tally.empty + one_if (is_empty mark.reply);
  opened = tally.opened + one_if (is_open mark.reply);
  stored = tally.stored + one_if stores;
  cleared = tally.cleared + one_if (is_clear mark.step);
  flushed = tally.flushed + one_if (is_flush mark.step);
  stopped = tally.stopped;
}

-- there are numbers for one mark more
pub record CanCount (tally : Tally) : Type 0 where
  pub marks : tally.marks < 2 ^ 63
  pub given : tally.given < 2 ^ 63
  pub empty : tally.empty < 2 ^ 63
  pub opened : tally.opened < 2 ^ 63
  pub stored : tally.stored < 2 ^ 63
  pub cleared : tally.cleared < 2 ^ 63
  pub flushed : tally.flushed < 2 ^ 63

-- the tally of a run, but for whether it has stopped
pub record Tallied (limits : Limits) (run : List History) (tally : Tally) : Type 0 where
  pub marks : tally.marks ≡ length (joined run)
  pub given : tally.given ≡ how_many (λ mark. is_given mark.reply) (joined run)
  pub empty : tally.empty ≡ how_many (λ mark. is_empty mark.reply) (joined run)
  pub opened : tally.opened ≡ how_many (λ mark. is_open mark.reply) (joined run)
  pub stored : tally.stored ≡ length (flat_map (entries limits) run)
  pub cleared : tally.cleared ≡ how_many (λ mark. is_clear mark.step) (joined run)
  pub flushed : tally.flushed ≡ how_many (λ mark. is_flush mark.step) (joined run)
