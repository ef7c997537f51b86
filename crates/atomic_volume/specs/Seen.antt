-- What a look shows.
use Rattle.atomic_volume.specs.Opening.{Contents}
use Rattle.atomic_volume.specs.declared.looking.Looked.{Looked}

-- the contents that were looked at
abbrev pub contents_seen : Looked → Contents
contents_seen looked = record { blocks = looked.geometry.blocks; inodes = looked.geometry.inodes; bytes = looked.bytes; last = looked.last }
