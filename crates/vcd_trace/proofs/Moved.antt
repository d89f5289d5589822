-- Another simulator of the same net.
use Rattle.std.proofs.Common.{sym, ap, ◌∙◌, subst, List, map}
use Rattle.netlist.specs.declared.netlist.Module.{Module}
use Rattle.sim_values.specs.declared.edge.Part.{Part}
use Rattle.sim_layout.specs.Running.{Running, IsSameNet}
use Rattle.net_registers.specs.declared.listing.Listing.{Listing}
use Rattle.net_registers.specs.Heads.{IsListing, place_of, IsOfNet}
use Rattle.net_registers.specs.Marks.{AreMarks, registers_of}
use Rattle.std.specs.List.{AllByRecursion}
use Rattle.verilog_meaning.specs.Names.{top_of}

pub listing_moved : (old new : Running) (l : Listing) → IsSameNet old new → IsListing old l → IsListing new l
listing_moved old new l net is = record {
  marks = is.marks;
  are = subst (λ (ms : List Module). AreMarks ms is.marks) (sym net.modules) is.are;
  head = is.head;
  lines = is.lines;
  places = is.places ∙ ap (λ (parts : List Part). map (place_of parts) (registers_of is.marks)) (sym net.parts);
  widths = is.widths;
  top = is.top;
  is_top = ap top_of net.modules ∙ is.is_top;
  net = subst (λ (ms : List Module). AllByRecursion (IsOfNet ms is.top) (registers_of is.marks)) (sym net.modules) is.net;
}
