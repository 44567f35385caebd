-- `Page::hex` meets its contract: after i turns the digits of the first i bytes are put.
use Rattle.std.proofs.Common.{take}
use Rattle.line.specs.Numerals.{hex_digits}
use Rattle.line.specs.Pages.{Put}
use Rattle.line.proofs.Page.hex.Given as goal

abbrev pub invariant-loop-byte : goal.invariant-loop-byte
invariant-loop-byte l = Put l.initial.self (hex_digits (take l.byte-index l.bytes)) l.self
