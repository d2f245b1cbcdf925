-- One side of a link, and what the calls on it do to its bytes.
use Rattle.std.specs.{Prelude.{ℕ, List, ◌++◌, take, Option, Some, None, ⊤}, Option.option_map}
use Rattle.agent_ports.specs.declared.link.{Got.{Got, TheVariants.{Bytes, End, Failed}}, Sent.Sent}
use Rattle.agent_ports.specs.declared.link.Sent.TheVariants as sent

-- the bytes of one side, where they are known, and how many calls have failed there
pub record Side : Type 0 where
  pub bytes : Option (List ℕ)
  pub faults : ℕ

-- these bytes, and then what is left
abbrev pub followed_by : List ℕ → Option (List ℕ) → Option (List ℕ)
followed_by bytes left = option_map (λ rest. bytes ++ rest) left

-- what was there, and then these bytes
abbrev pub with_bytes : Option (List ℕ) → List ℕ → Option (List ℕ)
with_bytes written bytes = option_map (λ before. before ++ bytes) written

-- how many bytes a read took
abbrev pub taken_by : Got → ℕ
taken_by (Bytes n) = n
taken_by End = 0
taken_by Failed = 0

-- a fact of that number, where a read gave bytes
abbrev pub IfBytes : Got → (ℕ → Type 0) → Type 0
IfBytes (Bytes n) P = P n
IfBytes End P = ⊤
IfBytes Failed P = ⊤

-- what a write appended
abbrev pub sent_part : List ℕ → Sent → List ℕ
sent_part bytes sent.All = bytes
sent_part bytes (sent.Failed n) = take n bytes

-- a fact of the number of bytes that went, where a write failed
abbrev pub IfCut : Sent → (ℕ → Type 0) → Type 0
IfCut sent.All P = ⊤
IfCut (sent.Failed n) P = P n

-- the write failed
abbrev pub IsCut : Sent → Type 0
IsCut sent.All = ⊥
IsCut (sent.Failed n) = ⊤

-- A fact of the bytes before a call and after it, where they are known. Whether they are known doesn't change.
abbrev pub WhereKnown : Option (List ℕ) → Option (List ℕ) → (List ℕ → List ℕ → Type 0) → Type 0
WhereKnown None None P = ⊤
WhereKnown None (Some after) P = ⊥
WhereKnown (Some before) None P = ⊥
WhereKnown (Some before) (Some after) P = P before after
