-- The faults of a reading.
use Rattle.cluster.specs.declared.names.NameFault.{NameFault}
use Rattle.cluster.specs.declared.names.NameFault.TheVariants.{BadName, Memory as NoRoom}
use Rattle.cert_text.specs.declared.parsing.TextFault.{TextFault}
use Rattle.cert_text.specs.declared.parsing.TextFault.TheVariants.{NotALine, Memory}

-- no name is no line
abbrev pub of_name_fault : NameFault → TextFault
of_name_fault BadName = NotALine
of_name_fault NoRoom = Memory
