mod FieldOrder
