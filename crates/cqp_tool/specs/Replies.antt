-- What a reply writes. No public clause cites this module.
use Rattle.std.specs.Prelude.{ℕ, List}
use Rattle.cqp_tool.specs.declared.reply.Text.{Text}
use Rattle.cqp_tool.specs.declared.reply.Text.TheVariants as text

-- the bytes of a text
abbrev pub bytes_in : Text → List ℕ
bytes_in (text.Fixed fixed) = fixed.now
bytes_in (text.Made bytes) = bytes
