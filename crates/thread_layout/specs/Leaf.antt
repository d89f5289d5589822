-- The ports of the module of a thread as a leaf of a net.
use Rattle.std.specs.Prelude.{ℕ, suc, ◌+◌, ◌-◌, nat_eq, nat_lt, if◌then◌else◌, List, [], ◌∷◌, length}
use Rattle.netlist.specs.declared.netlist.Module.{Module}
use Rattle.leaf_machine.specs.Leaves.{Heard, Clock, Enable, Grant, Told, LeafPorts}
use Rattle.leaf_machine.specs.Ports.{CorePort, told_place}
use Rattle.thread_promise.specs.Serving.{Ports}
use Rattle.thread_slots.specs.declared.shape.Shape.{Shape}
use Rattle.thread_layout.specs.Thread.{core_ports, port_at, need_at, done_at}

-- the number that is told at place x behind those of the cores before core k
abbrev pub told_from : ℕ → List CorePort → ℕ → Heard
told_from k [] x = Told k x
told_from k (p ∷ ports) x = if nat_lt x (length p.told) then Told k x else told_from (suc k) ports (x - length p.told)

-- the clock, the enable, the grants of cores, and what they tell
abbrev pub input_at : List CorePort → ℕ → Heard
input_at ports x = if nat_eq x 0 then Clock else (if nat_eq x 1 then Enable else (if nat_lt x (2 + length ports) then Grant (x - 2) else told_from 0 ports (x - (2 + length ports))))

abbrev pub leaf_of : Shape → Module → LeafPorts
leaf_of shape m = record {
  uses = λ k. nat_lt k (length (core_ports shape));
  enable = 1;
  ask = port_at shape m;
  grant = λ k. 2 + k;
  told = λ k j. 2 + length (core_ports shape) + (told_place (core_ports shape) k + j);
  need = need_at shape m;
  done = done_at shape m;
  heard = input_at (core_ports shape);
}

-- THE PORTS of the promise: those of banks, and those of the cores that acts ask
abbrev pub served_ports : Shape → Module → Ports
served_ports shape m = record {
  enable = (leaf_of shape m).enable;
  bank = λ n. record {
    grant = (leaf_of shape m).grant n;
    word = (leaf_of shape m).told n 0;
    ask = (leaf_of shape m).ask n 0;
    writes = (leaf_of shape m).ask n 1;
    address = (leaf_of shape m).ask n 2;
    value = (leaf_of shape m).ask n 3;
  };
  core = λ k. record {
    grant = (leaf_of shape m).grant k;
    ask = (leaf_of shape m).ask k 0;
    number = (leaf_of shape m).ask k 1;
    value = λ j. (leaf_of shape m).ask k (suc (suc j));
    told = (leaf_of shape m).told k;
  };
  need = (leaf_of shape m).need;
  done = (leaf_of shape m).done;
}
