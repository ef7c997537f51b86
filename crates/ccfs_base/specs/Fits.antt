-- The bounds of commands.
use Rattle.std.specs.Prelude.{Bool, true, nat_le, length}
use Rattle.ccfs_base.specs.declared.commands.Command.{Command}
use Rattle.ccfs_base.specs.declared.commands.Command.TheVariants.{Write, Read, HWrite, HRead, SetStream}

-- a command within the bounds: at most 65,536 bytes to write, at most 4,096 to read, and a stream of at most 63; `read /f 0 4097` isn't
abbrev pub fits_command : Command → Bool
fits_command (Write path off bytes) = nat_le (length bytes) 65536
fits_command (Read path off len) = nat_le len 4096
fits_command (HWrite handle off bytes) = nat_le (length bytes) 65536
fits_command (HRead handle off len) = nat_le len 4096
fits_command (SetStream stream ignore) = nat_le stream 63
fits_command _ = true
