use Rattle.hardware_threads.proofs.run.run.Given as goal

abbrev pub ghosts-run_as : goal.ghosts-run_as
ghosts-run_as g a = record { modules = a.first.modules; threads = a.threads; most = a.entries; layout = a.first }
