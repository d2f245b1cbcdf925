-- Keys that are listed.
use Rattle.std.proofs.{Common.{◌≡◌, ◌⊎◌, ◌≤◌, ◌<◌, ◌+◌, ℕ, true, false, List, [], ◌∷◌, ◌++◌, length, take, drop, get_or, append-nil, map, Option, Some, Result, Ok, Err, inl, inr, refl, ap, sym, ◌∙◌, subst, add-one}, Math.Seq.drop-cons, lemmas.{List.{drop_all, take_more}, Grind.flat_map-append}}
use Rattle.{agent_ask.{specs.{Events.Call, Session.{PortCalls.{Read, DoesKeys}, Actions.{returns, refuses}}}, proofs.ActionsDone.{action_then, action_stops}}, agent_ports.specs.{KeyFiles.KeyFiles, declared.{grip.Grip.Grip, keys.KeyRead.KeyRead}}}
use Rattle.{session_client.specs.declared.{code.Code.TheVariants.NoSecKey, refusal.Refusal.{Refusal, TheVariants.Agent}}, cache_policy.specs.{declared.mark.MarkStep.MarkStep, Turns.Turn}, sexp_keys.specs.declared.fault.KeyFault.KeyFault}
use Rattle.sexp_keys.specs.declared.fault.KeyFault.TheVariants.{InvSexp, BadSecKey, Shadowed, NotSupported, NoMemory}
use Rattle.key_commands.specs.{Files.FileSays, KeyActions.{grips_bytes, file_in, ReadsListed, faulty, no_memory, HasOne, TellsListed, WritesInfos}, Actions.Finds, Partial.DoesKeyAction, States.KeyState, Steps.{DoesKeyCalls, unlisted}}
use Rattle.key_commands.proofs.Doing.{one_call, one_call_of_memory, calls_then, calls_stop, no_calls}

-- a listed key's file was read, and has this fault
module _ {file : List ℕ} {start now : KeyFiles} (grip : Grip) (answer : KeyRead) (found : file_in answer ≡ Some file) (reads : DoesKeys start (Read grip answer) now) where
  pub fault_is_unlisted : (fault : KeyFault) → (fault ≡ NoMemory) ⊎ FileSays file (Err fault) → DoesKeyCalls (ReadsListed grip) start (unlisted fault) now
  fault_is_unlisted NoMemory why = one_call_of_memory (Read grip answer) reads (λ held. no_memory found) refl
  fault_is_unlisted InvSexp (inl memory) = cc memory
  fault_is_unlisted InvSexp (inr says) = one_call (Read grip answer) reads (λ held. faulty found says) refl
  fault_is_unlisted BadSecKey (inl memory) = cc memory
  fault_is_unlisted BadSecKey (inr says) = one_call (Read grip answer) reads (λ held. faulty found says) refl
  fault_is_unlisted Shadowed (inl memory) = cc memory
  fault_is_unlisted Shadowed (inr says) = one_call (Read grip answer) reads (λ held. faulty found says) refl
  fault_is_unlisted NotSupported (inl memory) = cc memory
  fault_is_unlisted NotSupported (inr says) = one_call (Read grip answer) reads (λ held. faulty found says) refl

-- the grips of these bytes
abbrev pub grips_of : List (List ℕ) → List Grip
grips_of bytes = map (λ (b : List ℕ). record { 0 = b }) bytes

-- the grips from some place on are the one there and the later ones
module _ (items : List (List ℕ)) (i : ℕ) (within : i < length items) where
  next_grip : grips_of (drop i items) ≡ record { 0 = get_or items i [] } ∷ grips_of (drop (i + 1) items)
  next_grip = ap grips_of (drop-cons items i [] within ∙ ap (λ (k : ℕ). get_or items i [] ∷ drop k items) (sym (add-one i)))

  -- the key there isn't there, and the later ones are looked for
  pub seeks_on : {start mid now : KeyFiles} {result : Result (Unit {0}) Refusal} → DoesKeyCalls (Finds (record { 0 = get_or items i [] })) start (Ok false) mid
      → DoesKeyCalls (HasOne (grips_of (drop (i + 1) items))) mid result now → DoesKeyCalls (HasOne (grips_of (drop i items))) start result now
  seeks_on {start} {now} {result} one later = subst (λ (grips : List Grip). DoesKeyCalls (HasOne grips) start result now) (sym next_grip) (calls_then one later)

  -- it is there
  pub seeks_no_more : {start now : KeyFiles} → DoesKeyCalls (Finds (record { 0 = get_or items i [] })) start (Ok true) now
      → DoesKeyCalls (HasOne (grips_of (drop i items))) start (Ok tt) now
  seeks_no_more {start} {now} one = subst (λ (grips : List Grip). DoesKeyCalls (HasOne grips) start (Ok tt) now) (sym next_grip) (calls_then one (no_calls now (λ held. returns) refl))

  -- it isn't known whether it is
  pub seeks_in_vain : {start now : KeyFiles} {why : Refusal} → DoesKeyCalls (Finds (record { 0 = get_or items i [] })) start (Err why) now
      → DoesKeyCalls (HasOne (grips_of (drop i items))) start (Err why) now
  seeks_in_vain {start} {now} {why} one = subst (λ (grips : List Grip). DoesKeyCalls (HasOne grips) start (Err why) now) (sym next_grip) (calls_stop one)

-- none is left
pub seeks_none : (items : List (List ℕ)) (i : ℕ) → length items ≤ i → (keys : KeyFiles) → DoesKeyCalls (HasOne (grips_of (drop i items))) keys (Err (Agent NoSecKey)) keys
seeks_none items i past keys =
    subst (λ (left : List (List ℕ)). DoesKeyCalls (HasOne (grips_of left)) keys (Err (Agent NoSecKey)) keys) (sym (drop_all i items past)) (no_calls keys (λ held. refuses) refl)

-- the bytes of the grips so far, and of the next one
pub joins_on : (grips : List Grip) (i : ℕ) (grip : Grip) → i < length grips → grips_bytes (take (i + 1) grips) ≡ grips_bytes (take i grips) ++ (get_or grips i grip).0
joins_on grips i grip within =
    let next = get_or grips i grip in
    ap grips_bytes (take_more grips i grip within) ∙ flat_map-append (λ (g : Grip). g.0) (take i grips) (next ∷ []) ∙ ap (λ (x : List ℕ). grips_bytes (take i grips) ++ x) (append-nil next.0)

-- the keys from some place on are the one there and the later ones
next_key : (grips : List Grip) (i : ℕ) (grip : Grip) → i < length grips → drop i grips ≡ get_or grips i grip ∷ drop (i + 1) grips
next_key grips i grip within = drop-cons grips i grip within ∙ ap (λ (k : ℕ). get_or grips i grip ∷ drop k grips) (sym (add-one i))

module _ {D P : Type 0} {turned : D → MarkStep → Turn → D → Type 0} {prompted : P → Call → P → Type 0} (grips : List Grip) (i : ℕ) where
  module _ (grip : Grip) (within : i < length grips) where
    -- the client was told of the key there, and then of the later ones
    pub tells_on : {held mid after : Option ℕ} {start between now : KeyState turned prompted} {result : Result (Unit {0}) Refusal}
        → DoesKeyAction turned prompted (TellsListed (get_or grips i grip)) held start (Ok tt) mid between
        → DoesKeyAction turned prompted (WritesInfos (drop (i + 1) grips)) mid between result after now → DoesKeyAction turned prompted (WritesInfos (drop i grips)) held start result after now
    tells_on {held} {after} {start} {now} {result} one later =
        subst (λ (left : List Grip). DoesKeyAction turned prompted (WritesInfos left) held start result after now) (sym (next_key grips i grip within)) (action_then one later)

    -- it couldn't be
    pub tells_in_vain : {held after : Option ℕ} {start now : KeyState turned prompted} {why : Refusal} → DoesKeyAction turned prompted (TellsListed (get_or grips i grip)) held start (Err why) after now
        → DoesKeyAction turned prompted (WritesInfos (drop i grips)) held start (Err why) after now
    tells_in_vain {held} {after} {start} {now} {why} one =
        subst (λ (left : List Grip). DoesKeyAction turned prompted (WritesInfos left) held start (Err why) after now) (sym (next_key grips i grip within)) (action_stops one)

  -- no key is left
  pub tells_none : {held : Option ℕ} {now : KeyState turned prompted} → length grips ≤ i → DoesKeyAction turned prompted (WritesInfos []) held now (Ok tt) held now
      → DoesKeyAction turned prompted (WritesInfos (drop i grips)) held now (Ok tt) held now
  tells_none {held} {now} past returns_so = subst (λ (left : List Grip). DoesKeyAction turned prompted (WritesInfos left) held now (Ok tt) held now) (sym (drop_all i grips past)) returns_so
