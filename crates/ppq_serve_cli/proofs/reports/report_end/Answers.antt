use Rattle.ppq_serve_cli.proofs.reports.report_end.Goals as goal

pub returns-in-DeviceFault-clause-part : goal.returns-in-DeviceFault-clause-part
returns-in-DeviceFault-clause-part g c = rw c.in-DeviceFault.is c.put_number.ensures.part

pub returns-in-NoFreeBlock-clause-all : goal.returns-in-NoFreeBlock-clause-all
returns-in-NoFreeBlock-clause-all g c = rw c.in-NoFreeBlock.is c.put-in-NoFreeBlock.ensures.all

pub returns-in-NoFreeBlock-clause-part : goal.returns-in-NoFreeBlock-clause-part
returns-in-NoFreeBlock-clause-part g c = rw c.in-NoFreeBlock.is c.put-in-NoFreeBlock.ensures.part

pub returns-in-BudgetTooSmall-clause-all : goal.returns-in-BudgetTooSmall-clause-all
returns-in-BudgetTooSmall-clause-all g c = rw c.in-BudgetTooSmall.is c.put_number-in-BudgetTooSmall.ensures.all

pub returns-in-BudgetTooSmall-clause-part : goal.returns-in-BudgetTooSmall-clause-part
returns-in-BudgetTooSmall-clause-part g c = rw c.in-BudgetTooSmall.is c.put_number-in-BudgetTooSmall.ensures.part

pub returns-in-Memory-clause-all : goal.returns-in-Memory-clause-all
returns-in-Memory-clause-all g c = rw c.in-Memory.is c.put-in-Memory.ensures.all

pub returns-in-Memory-clause-part : goal.returns-in-Memory-clause-part
returns-in-Memory-clause-part g c = rw c.in-Memory.is c.put-in-Memory.ensures.part

pub returns-in-NoDevice-clause-all : goal.returns-in-NoDevice-clause-all
returns-in-NoDevice-clause-all g c = rw c.in-NoDevice.is c.put-in-NoDevice.ensures.all

pub returns-in-NoDevice-clause-part : goal.returns-in-NoDevice-clause-part
returns-in-NoDevice-clause-part g c = rw c.in-NoDevice.is c.put-in-NoDevice.ensures.part

pub returns-in-BadLine-clause-all : goal.returns-in-BadLine-clause-all
returns-in-BadLine-clause-all g c = rw c.in-BadLine.is c.put-in-BadLine.ensures.all

pub returns-in-BadLine-clause-part : goal.returns-in-BadLine-clause-part
returns-in-BadLine-clause-part g c = rw c.in-BadLine.is c.put-in-BadLine.ensures.part

pub returns-in-FileChanged-clause-all : goal.returns-in-FileChanged-clause-all
returns-in-FileChanged-clause-all g c = rw c.in-FileChanged.is c.put-in-FileChanged.ensures.all

pub returns-in-FileChanged-clause-part : goal.returns-in-FileChanged-clause-part
returns-in-FileChanged-clause-part g c = rw c.in-FileChanged.is c.put-in-FileChanged.ensures.part

pub returns-in-NoScript-clause-all : goal.returns-in-NoScript-clause-all
returns-in-NoScript-clause-all g c = rw c.in-NoScript.is c.put-in-NoScript.ensures.all

pub returns-in-NoScript-clause-part : goal.returns-in-NoScript-clause-part
returns-in-NoScript-clause-part g c = rw c.in-NoScript.is c.put-in-NoScript.ensures.part

pub returns-in-ScriptTooLong-clause-all : goal.returns-in-ScriptTooLong-clause-all
returns-in-ScriptTooLong-clause-all g c = rw c.in-ScriptTooLong.is c.put-in-ScriptTooLong.ensures.all

pub returns-in-ScriptTooLong-clause-part : goal.returns-in-ScriptTooLong-clause-part
returns-in-ScriptTooLong-clause-part g c = rw c.in-ScriptTooLong.is c.put-in-ScriptTooLong.ensures.part

pub returns-in-BadAgenda-clause-all : goal.returns-in-BadAgenda-clause-all
returns-in-BadAgenda-clause-all g c = rw c.in-BadAgenda.is c.put-in-BadAgenda.ensures.all

pub returns-in-BadAgenda-clause-part : goal.returns-in-BadAgenda-clause-part
returns-in-BadAgenda-clause-part g c = rw c.in-BadAgenda.is c.put-in-BadAgenda.ensures.part

pub returns-in-BadEdge-clause-all : goal.returns-in-BadEdge-clause-all
returns-in-BadEdge-clause-all g c = rw c.in-BadEdge.is c.put-in-BadEdge.ensures.all

pub returns-in-BadEdge-clause-part : goal.returns-in-BadEdge-clause-part
returns-in-BadEdge-clause-part g c = rw c.in-BadEdge.is c.put-in-BadEdge.ensures.part
