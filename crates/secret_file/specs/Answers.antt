-- What is answered for a file and a passphrase: the key, or else the first fault in this order.
use Rattle.std.specs.Prelude.{◌≡◌, ℕ, ◌⊎◌, List, true, false}
use Rattle.{sexp_canonical.specs.{View.tree_of, Spelling.IsReadable, declared.tree.Sexp.Sexp}, sexp_keys.specs.{Key.Key, Faults.IsFirstKeyFault, declared.fault.KeyFault.KeyFault}}
use Rattle.secret_file.specs.{Protection.IsProtectionFault, Opens.{first_of, LockedKey, IsFile, IsLocked, OpensTo}, declared.{locked.Opened.Opened, unlocked.Unlocked.Unlocked}}
use Rattle.sexp_keys.specs.declared.fault.KeyFault.TheVariants as faults
use Rattle.secret_file.specs.declared.locked.Opened.TheVariants as openings
use Rattle.secret_file.specs.declared.unlocked.Unlocked.TheVariants as answers

-- the answer that a fault of a key is
abbrev pub refused : KeyFault → Unlocked
refused faults.InvSexp = answers.InvSexp
refused faults.BadSecKey = answers.BadSecKey
refused faults.Shadowed = answers.Shadowed
refused faults.NotSupported = answers.NotSupported
refused faults.NoMemory = answers.NoMemory

-- the file isn't one expression to its last byte, or the expression is no key
abbrev pub IsFileFault : List ℕ → KeyFault → Type 0
IsFileFault file fault =
    (((tree : Sexp) → IsReadable file tree → ⊥) × (fault ≡ faults.InvSexp))
    ⊎ ((tree : Sexp) × IsReadable file tree × IsFirstKeyFault (tree_of tree) fault)

-- a clear key isn't locked, and a protected one has the fault of its protection
abbrev pub IsLockedFault : Key → KeyFault → Type 0
IsLockedFault key fault =
    ((key.is_clear ≡ true) × (fault ≡ faults.BadSecKey))
    ⊎ ((key.is_clear ≡ false) × IsProtectionFault (first_of key.private) fault)

-- the locked key opens by the passphrase, or the passphrase is bad
abbrev pub AnswersOpening : LockedKey → List ℕ → Opened → Type 0
AnswersOpening locked pass answer =
    ((key : Key) × OpensTo locked pass key × (answer ≡ openings.Key key))
    ⊎ (((key : Key) → OpensTo locked pass key → ⊥) × (answer ≡ openings.BadPassphrase))

-- the answer that an opening is
abbrev pub unlocked : Opened → Unlocked
unlocked (openings.Key key) = answers.Key key
unlocked openings.BadPassphrase = answers.BadPassphrase
unlocked openings.NoMemory = answers.NoMemory

-- the protection has a fault, or the locked key is opened
abbrev pub AnswersLocked : Key → List ℕ → Unlocked → Type 0
AnswersLocked key pass answer =
    ((fault : KeyFault) × IsProtectionFault (first_of key.private) fault × (answer ≡ refused fault))
    ⊎ ((locked : LockedKey) × (locked.key ≡ key) × IsLocked locked × ((opening : Opened) × AnswersOpening locked pass opening × (answer ≡ unlocked opening)))

-- the key is clear, or it is protected
abbrev pub AnswersKey : Key → List ℕ → Unlocked → Type 0
AnswersKey key pass answer =
    ((key.is_clear ≡ true) × (answer ≡ answers.NotProtected))
    ⊎ ((key.is_clear ≡ false) × AnswersLocked key pass answer)

-- the file has a fault, or it is a key
abbrev pub Answers : (file pass : List ℕ) → Unlocked → Type 0
Answers file pass answer =
    ((fault : KeyFault) × IsFileFault file fault × (answer ≡ refused fault))
    ⊎ ((key : Key) × IsFile file key × AnswersKey key pass answer)
