use Rattle.std.{proofs.Common.{◌≡◌, [], map}, specs.List.filter_map}
use Rattle.assuan_text.specs.Words.{words}
use Rattle.trust_list.specs.Entries.{judgement_of}
use Rattle.trust_list.proofs.trusted.Given as goal

-- the lines so far say nothing of the fingerprint
abbrev pub invariant-loop-line : goal.invariant-loop-line
invariant-loop-line l = filter_map (λ line. judgement_of l.digits (words line)) (map (λ line. line.now) l.yielded) ≡ []
