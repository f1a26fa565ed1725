-- A worked example of document 01 as a row of a table: what a definition gives, beside what the document says. Assumes nothing.
use Rattle.std.specs.Prelude.{List, ℤ}

pub record Example : Type 0 where
  pub gives : List ℤ
  pub says : List ℤ

abbrev pub example : List ℤ → List ℤ → Example
example gives says = record { gives = gives; says = says }
