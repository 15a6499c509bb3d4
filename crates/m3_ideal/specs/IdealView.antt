-- What the ideal machine is to a reader, and what it keeps.
use Rattle.m3_base.specs.Ideal.State.{State}
use Rattle.m3_ideal.specs.Ideal.NextNumbers.{AreNexts}
use Rattle.m3_ideal.specs.declared.ideal.Ideal.TheInside.{Inside}

abbrev pub ideal_state : Inside → State
ideal_state s =
    record {
      memory = s.memory.items;
      contexts = s.contexts;
      flights = s.flights.list;
      kernel_next = s.kernel_next;
      grants = s.grants;
    }

abbrev pub IsNumbered : Inside → Type 0
IsNumbered s = AreNexts s.flights.nexts s.contexts s.kernel_next
