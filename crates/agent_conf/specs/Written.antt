-- A setting as it is written: an option's name and what stands behind it, in one of three places.
use Rattle.std.specs.Prelude.{ℕ, List}
use Rattle.agent_conf.specs.declared.setting.{Place.Place, Setting.Setting}

pub record Written : Type 0 where
  pub place : Place
  pub number : ℕ
  pub text : List ℕ
  pub name : List ℕ
  pub value : List ℕ

-- a setting that the program holds
abbrev pub written : Setting → Written
written setting = record {
  place = setting.place;
  number = setting.number;
  text = setting.text.now;
  name = setting.name.now;
  value = setting.value.now;
}
