-- Sessions, and where a command may stand.
use Rattle.std.specs.Prelude.{ℕ, Bool, true, false, not, ◌&&◌, List, [], ◌∷◌, Option, Some, None, unwrap_or, nat_lt}
use Rattle.ppq_record.specs.Order.{is_before}
use Rattle.ppq_script.specs.declared.command.Command.{Command}
use Rattle.ppq_script.specs.declared.command.Command.TheVariants.{Push, Pop, Top, Size, Bulk, Gen, BulkPop, BulkPopLimit, Drain, BulkBegin, BulkPush, BulkEnd, LimitBegin, LimitPush, LimitTop, LimitPop, LimitEnd}
use Rattle.ppq_script.specs.declared.session.Session.{Session}
use Rattle.ppq_script.specs.declared.session.Session.TheVariants.{Outside, InBulk, InLimit}
use Rattle.ppq_script.specs.Words.{Words}

-- the session behind a command that begins or ends one
abbrev pub turn_of : {R : Type 0} → Command R → Option (Session R)
turn_of (Push item) = None
turn_of Pop = None
turn_of Top = None
turn_of Size = None
turn_of (Bulk file length) = None
turn_of (Gen seed count) = None
turn_of (BulkPop count) = None
turn_of (BulkPopLimit limit count) = None
turn_of (Drain count) = None
turn_of BulkBegin = Some InBulk
turn_of (BulkPush pass item) = None
turn_of BulkEnd = Some Outside
turn_of (LimitBegin limit) = Some (InLimit limit)
turn_of (LimitPush pass item) = None
turn_of LimitTop = None
turn_of LimitPop = None
turn_of LimitEnd = Some Outside

-- no session is open
abbrev pub is_outside : {R : Type 0} → Session R → Bool
is_outside Outside = true
is_outside InBulk = false
is_outside (InLimit limit) = false

-- a bulk session is
abbrev pub is_in_bulk : {R : Type 0} → Session R → Bool
is_in_bulk Outside = false
is_in_bulk InBulk = true
is_in_bulk (InLimit limit) = false

-- a limit session is
abbrev pub is_in_limit : {R : Type 0} → Session R → Bool
is_in_limit Outside = false
is_in_limit InBulk = false
is_in_limit (InLimit limit) = true

-- a limit session is, and the record is not below its limit
abbrev pub is_at_limit : {R : Type 0} → Words R → Session R → R → Bool
is_at_limit words Outside item = false
is_at_limit words InBulk item = false
is_at_limit words (InLimit limit) item = not (is_before words.cmp item limit)

-- a command may stand in this session of a script for so many workers
abbrev pub may_stand : {R : Type 0} → Words R → ℕ → Session R → Command R → Bool
may_stand words workers session (Push item) = is_outside session
may_stand words workers session Pop = is_outside session
may_stand words workers session Top = is_outside session
may_stand words workers session Size = is_outside session
may_stand words workers session (Bulk file length) = is_outside session
may_stand words workers session (Gen seed count) = is_outside session
may_stand words workers session (BulkPop count) = is_outside session
may_stand words workers session (BulkPopLimit limit count) = is_outside session
may_stand words workers session (Drain count) = is_outside session
may_stand words workers session BulkBegin = is_outside session
may_stand words workers session (BulkPush pass item) = is_in_bulk session && nat_lt pass workers
may_stand words workers session BulkEnd = is_in_bulk session
may_stand words workers session (LimitBegin limit) = is_outside session
may_stand words workers session (LimitPush pass item) = is_at_limit words session item && nat_lt pass workers
may_stand words workers session LimitTop = is_in_limit session
may_stand words workers session LimitPop = is_in_limit session
may_stand words workers session LimitEnd = is_in_limit session

-- each command may stand where it does, the first in this session, and no session is open behind the last
abbrev pub are_in_place : {R : Type 0} → Words R → ℕ → Session R → List (Command R) → Bool
are_in_place words workers session [] = is_outside session
are_in_place words workers session (command ∷ commands) = may_stand words workers session command && are_in_place words workers (unwrap_or (turn_of command) session) commands
