use Rattle.plan_io.specs.DeskMem.{desk_files}
use Rattle.plan_io.specs.Files.{bytes_of}
use Rattle.cert_read.specs.Reader.{StandsIn}
use Rattle.text_tests.proofs.reading.a_failed_read_leaves_the_reader.Given as goal

abbrev pub invariant-loop-want : goal.invariant-loop-want
invariant-loop-want g l = StandsIn (bytes_of (desk_files l.desk l.reader.name)) l.reader
