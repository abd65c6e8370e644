use Rattle.std.proofs.Common.{◌≡◌, Bool, true, false, List, [], ◌∷◌, refl}
use Rattle.std.specs.{Bool.{beq}, Prelude.{not}, List.{list_any}}
