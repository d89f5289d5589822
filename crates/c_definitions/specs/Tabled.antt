-- A program's declarations as the program holds them.
use Rattle.std.specs.Prelude.{map}
use Rattle.c_program.specs.Plain.{function_of, global_of}
use Rattle.c_definitions.specs.declared.tables.Tables.{Tables as TablesTree}
use Rattle.c_resolution.specs.Files.{Tables}

abbrev pub tables_of : TablesTree → Tables
tables_of t = record {
  functions = map function_of t.functions.items;
  globals = map global_of t.globals.items;
  threads = t.threads.items;
  mutexes = t.mutexes.items;
  barriers = t.barriers.items;
}
