-- What the code's rows stand for in the rules.
-- Assumes nothing.
use Rattle.std.specs.Prelude.{Option, Some, None}
use Rattle.std.proofs.Math.Option as math
use Rattle.rules.specs.Sets.{Row, row}
use Rattle.rows.specs.declared.Row

-- The rules' row of a row of the code.
abbrev pub ruled_row : Row.Row → Row
ruled_row r =
    row r.number r.n r.h r.d r.hp r.a r.k r.m r.public r.secret r.seal

-- What was found, as the rules' table has it.
abbrev pub ruled : Option Row.Row → math.Option Row
ruled (Some r) = math.some (ruled_row r)
ruled None = math.none
