-- A load of the code as the definition's.
use Rattle.rules.specs.Load.{Load, load_of}
use Rattle.accept.specs.declared.accepted.Load as code

-- the counts, and the words of the lent blocks
abbrev pub the_load : code.Load → Load
the_load load = load_of load.counts load.blocks.now
