-- The defaults: the lifetimes and the fewest bytes of a passphrase are those of the GnuPG manual ("agent options"), the others this
-- project's own.
use Rattle.std.{specs.Prelude.{ℕ, true, false, List, codes}, proofs.Common.{lit≤, refl}}
use Rattle.arrayvec.specs.ArrayVec.{ArrayVec}
use Rattle.session_options.specs.declared.{rules.Rules.Rules, version.Version.Version}
use Rattle.session_options.specs.declared.rules.TheConstants.{
  DEFAULT_TTL,
  DEFAULT_MAX_TTL,
  DEFAULT_TTL_SSH,
  DEFAULT_MAX_TTL_SSH,
  DEFAULT_WORKERS,
  DEFAULT_MIN_LEN,
  DEFAULT_MIN_NONALPHA,
  DEFAULT_S2K_COUNT,
}
use Rattle.session_options.specs.declared.rules.RunMode.TheVariants.{Server}

abbrev path : List ℕ → ArrayVec ℕ
path bytes = record { items = bytes }

abbrev pub default_version : Version
default_version = record { bytes = record { items = codes "2.4.0" }; in_form = refl }

abbrev pub default_rules : Rules
default_rules = record {
  default_ttl = DEFAULT_TTL;
  max_ttl = DEFAULT_MAX_TTL;
  default_ttl_ssh = DEFAULT_TTL_SSH;
  max_ttl_ssh = DEFAULT_MAX_TTL_SSH;
  pinentry_timeout = 0;
  workers = DEFAULT_WORKERS;
  pid = 0;
  version = default_version;
  min_len = DEFAULT_MIN_LEN;
  min_nonalpha = DEFAULT_MIN_NONALPHA;
  allow_preset = false;
  allow_loopback = true;
  extra = false;
  s2k_count = DEFAULT_S2K_COUNT;
  pinentry = path (codes "/usr/bin/pinentry");
  homedir = path (codes ".");
  run = Server;
  count_in_range = record { least = lit≤ tt; greatest = lit≤ tt };
  workers_in_range = record { least = lit≤ tt; greatest = lit≤ tt };
}
