-- In whose hands a folder is.
use Rattle.std.specs.Prelude.{ℕ, ◌==◌, ◌&&◌, ◌||◌, Bool, Option, Some, None, cond, not, bit_and}
use Rattle.command_base.specs.declared.attributes.Attributes.{Attributes}
use Rattle.command_base.specs.declared.caller.Caller.{Caller}
use Rattle.command_base.specs.declared.danger.Danger.{Danger}
use Rattle.command_base.specs.declared.danger.Danger.TheVariants.{OfAnother, GroupWrites, AllWrite}

-- the folder is root's, or that of the user who runs the command
abbrev pub is_trusted : Caller → Attributes → Bool
is_trusted c a = (a.owner == 0) || (a.owner == c.user)

-- nobody but its owner renames what is in the folder: only who made a thing may (0o1000)
abbrev pub is_sticky : Attributes → Bool
is_sticky a = not (bit_and a.mode 0o1000 == 0)

-- everybody may write there (0o002)
abbrev pub all_write : Attributes → Bool
all_write a = not (bit_and a.mode 0o002 == 0)

-- its group may write there (0o020)
abbrev pub group_writes : Attributes → Bool
group_writes a = not (bit_and a.mode 0o020 == 0)

-- the group is root's, or the caller's own where the folder is the caller's too and the caller is not
-- root
abbrev pub is_trusted_group : Caller → Attributes → Bool
is_trusted_group c a =
    (a.group == 0) || (not (c.user == 0) && ((a.owner == c.user) && (a.group == c.group)))

-- Why others can put something else in the place of what is in the folder; none where they cannot.
unfoldable pub danger_of : Caller → Attributes → Option Danger
danger_of c a =
    cond (not (is_trusted c a)) (Some (OfAnother a.owner))
    (cond (is_sticky a) None
    (cond (all_write a) (Some AllWrite)
    (cond (group_writes a && not (is_trusted_group c a)) (Some (GroupWrites a.group)) None)))
