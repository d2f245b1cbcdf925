-- Whose a folder is, and who may write there, from the folder itself up to the root (sshd_config(5), `StrictModes`; OpenSSH's misc.c,
-- `safe_path`, which lets no folder with the sticky bit pass). That one may lie in a folder with that bit, and that an owner who isn't mapped
-- counts as root there, are this project's own rules.
use Rattle.std.specs.Prelude.{◌≡◌, ℕ, zero, suc, ◌<◌, ◌⊎◌, bit_and, Some, List, slice_get}
use Rattle.gnupg_home.specs.declared.rule.{Step.Step, Users.Users, Part.{Part, TheVariants.{Home, Program, Above}}, Rule.{Rule, TheVariants.{Owner, Mode}}, Breach.Breach}

-- others than the owner can't make, rename or remove what is there: neither bit of 0o022 (inode(7), "The file type and mode")
abbrev pub IsClosed : Step → Type 0
IsClosed step = bit_and step.mode 18 ≡ 0

-- only a file's owner renames or removes it there: the bit 0o1000 (inode(7), "The sticky bit")
abbrev pub IsSticky : Step → Type 0
IsSticky step = bit_and step.mode 512 ≡ 512

-- it is the user's or root's; an owner who isn't mapped in a user namespace counts as root (user_namespaces(7), "Unmapped user and group IDs")
abbrev pub IsTrusted : Users → Step → Type 0
IsTrusted users step = (step.owner ≡ users.user) ⊎ (step.owner ≡ 0) ⊎ (users.unmapped ≡ Some step.owner)

-- whose it may be
abbrev pub HasOwner : Users → Part → Step → Type 0
HasOwner users Home step = step.owner ≡ users.user
HasOwner users Program step = IsTrusted users step
HasOwner users Above step = IsTrusted users step

-- who may write there
abbrev pub HasMode : Part → Step → Type 0
HasMode Home step = IsClosed step
HasMode Program step = IsClosed step
HasMode Above step = IsClosed step ⊎ IsSticky step

abbrev pub Passes : Users → Part → Step → Type 0
Passes users part step = HasOwner users part step × HasMode part step

-- which of the two it breaks; the owner counts first, since no mode mends that
abbrev pub Breaks : Users → Part → Step → Rule → Type 0
Breaks users part step Owner = ¬ HasOwner users part step
Breaks users part step Mode = HasOwner users part step × (¬ HasMode part step)

-- What each place of the way is, counted from what is judged up to the root: that itself, and then folders.
abbrev pub part_at : Part → ℕ → Part
part_at first zero = first
part_at first (suc place) = Above

abbrev pub EachPasses : Users → Part → List Step → Type 0
EachPasses users first steps = (place : ℕ) (step : Step) → slice_get steps place ≡ Some step → Passes users (part_at first place) step

-- the first step that doesn't pass, and what it breaks
pub record IsFirstBreach (users : Users) (first : Part) (steps : List Step) (breach : Breach) : Type 0 where
  pub stands : slice_get steps breach.place ≡ Some breach.step
  pub breaks : Breaks users (part_at first breach.place) breach.step breach.rule
  pub before : (place : ℕ) (lower : Step) → place < breach.place → slice_get steps place ≡ Some lower → Passes users (part_at first place) lower
