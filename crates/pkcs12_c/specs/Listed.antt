-- The list of what a store holds.
use Rattle.std.specs.Prelude.{ℕ, List}
use Rattle.p12.specs.declared.safe_bag.SafeBag.{SafeBag}
use Rattle.inventory_core.specs.Table.{IsTable}
use Rattle.pkcs12_c.specs.Opened.{AnyOpensWithin}

-- The store opens within the limit, and the text is the table of what it holds.
pub record ListsWithin (b p : List ℕ) (limit : ℕ) (text : List ℕ) : Type 0 where
  pub bags : List (List SafeBag)
  pub keys : List (List ℕ)
  pub opens : AnyOpensWithin b p limit bags keys
  pub table : IsTable bags text
