-- What the code's accesses stand for.
use Rattle.std.specs.Prelude.{List, map}
use Rattle.thread_semantics.specs.Memory.{Location}
use Rattle.thread_semantics.specs.Races.{Touch}
use Rattle.race_check.specs.declared.access.Location.{Location as LocationCode}
use Rattle.race_check.specs.declared.access.Access.{Access}

abbrev pub location_of : LocationCode → Location
location_of l = record { variable = l.global; index = l.index }

abbrev pub touch_of : Access → Touch
touch_of a = record { place = location_of a.location; written = a.written }

abbrev pub touches_of : List Access → List Touch
touches_of accesses = map touch_of accesses
