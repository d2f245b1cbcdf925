-- What an error of clap's is as a fault of the words: this project's own.
use Rattle.clap.specs.declared.error.kind.ErrorKind.{ErrorKind, TheVariants.OutOfMemory}
use Rattle.agent_top.specs.declared.words.WordsFault.{WordsFault, TheVariants.{Bad, NoMemory}}

abbrev pub fault_by : ErrorKind → WordsFault
fault_by OutOfMemory = NoMemory
fault_by _ = Bad
