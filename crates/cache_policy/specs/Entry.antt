-- One entry, the request that it serves and the moments at which it may be given.
use Rattle.std.specs.{Prelude.{ℕ, ◌+◌, List, Bool, true, ◌&&◌, nat_eq, nat_le, Option, Some, None}, Cmp.Lexicographic.pointwise}
use Rattle.cache_policy.specs.{declared.{mode.Mode.Mode, entry.Entry.Entry}, Mode.covers}

-- two ids are the same bytes
abbrev pub same_id : List ℕ → List ℕ → Bool
same_id = pointwise nat_eq

-- the entry has this id, in a mode that covers the asked one
abbrev pub serves : List ℕ → Mode → Entry → Bool
serves id mode entry = same_id entry.id id && covers entry.mode mode

-- the moment is within the ttl, counted from the last use; without a ttl each moment is
abbrev pub within_ttl : Option ℕ → ℕ → ℕ → Bool
within_ttl None last moment = true
within_ttl (Some ttl) last moment = nat_le moment (last + ttl)

-- the moment is within both lifetimes of the entry, whose last use was at `last`
abbrev pub within : Entry → ℕ → ℕ → Bool
within entry last moment = within_ttl entry.ttl last moment && nat_le moment (entry.entered + entry.max)
