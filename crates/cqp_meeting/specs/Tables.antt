-- How parts stand, told from their processes, and tables of stands.
use Rattle.std.specs.Prelude.{◌≡◌, ℕ, is_none, Bool, false, if◌then◌else◌, Option}
use Rattle.std.specs.Option.{option_map}
use Rattle.cqp_syntax.specs.declared.val.Val.TheVariants as val
use Rattle.cqp_syntax.specs.Trees.{valued, Process, input, output}
use Rattle.cqp_cells.specs.Config.{Config, part_at}
use Rattle.cqp_cells.specs.Operands.{has_wrong_operand}
use Rattle.cqp_cells.specs.Redex.{next_redex_of}
use Rattle.cqp_order.specs.declared.stand.Stand.{Stand}
use Rattle.cqp_order.specs.declared.stand.Stand.TheVariants.{Alone, Sends, Receives}

-- an output whose values are all there waits on its channel; else it goes on by itself
abbrev pub output_stand : ℕ → Bool → Stand
output_stand k ready = if ready then Sends k else Alone

-- an input waits on its channel, and so does a ready output; any other process goes on by itself
abbrev pub stand_in : Process → Stand
stand_in (input (valued (val.Chan k)) bs p) = Receives k
stand_in (output (valued (val.Chan k)) es p) = output_stand k (is_none (next_redex_of es))
stand_in p = Alone

-- the table tells how each part of a configuration stands, in which no operand is wrong
pub record IsTable (at : ℕ → Option Stand) (c : Config) : Type 0 where
  pub stands : (i : ℕ) → at i ≡ option_map stand_in (part_at i c.parts)
  pub operands : has_wrong_operand c ≡ false
