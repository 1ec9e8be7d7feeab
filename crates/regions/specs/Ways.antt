-- What a share is moved by: one more for a pointer that comes in, one less, modulo 2^32, for one that goes out.
-- Assumes nothing.
use Rattle.std.specs.Prelude.{ℕ}
use Rattle.regions.specs.declared.Way.{Way}
use Rattle.regions.specs.declared.Way.TheVariants.{In, Out}

abbrev pub by : Way → ℕ
by In = 1
by Out = 4294967295
