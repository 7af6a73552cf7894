-- What C gives, in the model's terms: the wall time of seven numbers. Assumes nothing: these are definitions.
use Rattle.std.specs.Prelude.{ℕ, List, get_or}
use Rattle.calendar.specs.declared.WallTime.{WallTime}

-- year, month, day, hour, minute, second, ticks
abbrev pub wall_time : List ℕ → WallTime
wall_time ns =
    record { year = get_or ns 0 0; month = get_or ns 1 0; day = get_or ns 2 0; hour = get_or ns 3 0; minute = get_or ns 4 0; second = get_or ns 5 0; ticks = get_or ns 6 0 }
