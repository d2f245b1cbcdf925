use Rattle.std.{proofs.Common.rules, specs.List.Sorted.IsStrictlySortedBy}
use Rattle.key_store.proofs.folder.FolderKeysKeys.list.Goals as goal

pub returns-in-Err-Absent : goal.returns-in-Err-Absent
unfolding IsStrictlySortedBy
returns-in-Err-Absent g c = record {
  says = search rules;
  ascending = rw c.new.ensures.items tt;
  leaves = search rules;
  failed = search rules;
}
