-- What is written of the certificate above one.
use Rattle.std.specs.Prelude.{ℕ, List, codes, decimal}
use Rattle.inventory_core.specs.declared.parent.Parent.{Parent}
use Rattle.inventory_core.specs.declared.parent.Parent.TheVariants as parent

abbrev pub parent_text : Parent → List ℕ
parent_text parent.Itself = codes "self"
parent_text (parent.Of k) = decimal k
parent_text parent.Unknown = codes "-"
