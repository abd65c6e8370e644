use Rattle.p25_status.proofs.names.put_field_name.Goals as goal

pub returns-in-EncryptionSync-clause-text : goal.returns-in-EncryptionSync-clause-text
returns-in-EncryptionSync-clause-text c = rw c.in-EncryptionSync.is c.put-in-EncryptionSync.ensures.list

pub returns-in-LowSpeed1-clause-text : goal.returns-in-LowSpeed1-clause-text
returns-in-LowSpeed1-clause-text c = rw c.in-LowSpeed1.is c.put-in-LowSpeed1.ensures.list

pub returns-in-LowSpeed2-clause-text : goal.returns-in-LowSpeed2-clause-text
returns-in-LowSpeed2-clause-text c = rw c.in-LowSpeed2.is c.put-in-LowSpeed2.ensures.list

pub returns-in-PacketHeader-clause-text : goal.returns-in-PacketHeader-clause-text
returns-in-PacketHeader-clause-text c = rw c.in-PacketHeader.is c.put-in-PacketHeader.ensures.list
