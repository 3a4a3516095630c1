-- Master data as the machine sees them, and the clauses of number 7 that are about them. Assumes nothing.
use Rattle.std.specs.Prelude.{Bool, not, take}
use Rattle.lists.specs.Lists.{all_of}
use Rattle.header_record.specs.declared.Header.{Header}
use Rattle.header_record.specs.Header.{header_in_range}
use Rattle.point_record.specs.Point.{point_in_range}
use Rattle.machine.specs.Machine.{Frame}
use Rattle.master_data.specs.declared.MasterData.{MasterData}

-- the machine's month and points that master data stand for: the points that are counted
abbrev pub frame_of : MasterData → Frame
frame_of m = record { year = m.year; month = m.month; points = take m.count m.points }

-- 7: "a year, month, count of points or point value that 2 or 4 would have stopped"
abbrev pub month_of : MasterData → Header
month_of m = record { year = m.year; month = m.month; points = m.count; entries = 0 }

unfoldable pub wrong_month : MasterData → Bool
wrong_month m = not (header_in_range (month_of m))

unfoldable pub wrong_point : MasterData → Bool
wrong_point m = not (all_of point_in_range (take m.count m.points))
