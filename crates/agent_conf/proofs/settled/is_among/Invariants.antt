use Rattle.std.{proofs.Common.{◌≡◌, drop, map}, specs.{List.list_any, Str.bytes_eq}}
use Rattle.agent_conf.proofs.settled.is_among.Given as goal

-- the names that are left decide
abbrev pub invariant-loop-name : goal.invariant-loop-name
invariant-loop-name l =
    list_any (λ name. bytes_eq name l.option) (map (λ name. name.now) (drop l.name-index l.names)) ≡ list_any (λ name. bytes_eq name l.option) (map (λ name. name.now) l.names)
