-- What a caller knows of a file of the operating system, and of one in memory.
use Rattle.std.specs.Prelude.{Bool, is_some}
use Rattle.ra_disk.specs.declared.disk_file.DiskFile.{DiskFile}
use Rattle.ra_disk.specs.declared.memory_file.MemoryFile.{MemoryFile}
use Rattle.ra_disk.specs.Contents.{Contents}
use Rattle.ra_disk.specs.Calls.{held}

-- it was opened, and not read or changed since
abbrev pub is_unread_file : DiskFile → Bool
is_unread_file file = is_some file.found

abbrev pub is_unread_memory : MemoryFile → Bool
is_unread_memory file = file.is_unread

abbrev pub memory_contents : MemoryFile → Contents
memory_contents file = held file.record.calls
