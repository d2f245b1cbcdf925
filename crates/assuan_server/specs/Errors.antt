-- Error lines, as the Assuan manual has them ("server responses").
use Rattle.std.specs.Prelude.{ℕ, ◌+◌, ◌*◌, List, ◌++◌, codes, decimal}
use Rattle.session_client.specs.{Codes.{code_of, error_description}, declared.code.Code.Code}
use Rattle.assuan_server.specs.declared.errors.Origin.{Origin, TheVariants.{Agent, Pinentry}}

-- where an error comes from: its number there, and its name
abbrev pub source_of : Origin → ℕ
source_of Agent = 4
source_of Pinentry = 5

abbrev pub source_name : Origin → List ℕ
source_name Agent = codes "GPG Agent"
source_name Pinentry = codes "Pinentry"

-- the number of an error: its source stands above the lower 24 bits, which are its code
abbrev pub error_number : Code → Origin → ℕ
error_number code origin = source_of origin * 16777216 + code_of code

abbrev pub error_text : Code → Origin → List ℕ
error_text code origin =
    codes "ERR " ++ decimal (error_number code origin) ++ codes " " ++ error_description code ++ codes " <" ++ source_name origin ++ codes ">"
